-- `theorem::demand_3` meets its contract.
use Rattle.engine.proofs.Demand3.{demand_3}
use Rattle.engine.proofs.theorem.demand_3.Goals as goal

pub returns : goal.returns
returns c = demand_3
