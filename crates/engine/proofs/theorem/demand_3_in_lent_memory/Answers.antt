-- `theorem::demand_3_in_lent_memory` meets its contract.
use Rattle.engine.proofs.LentDemand3.{lent_demand_3}
use Rattle.engine.proofs.theorem.demand_3_in_lent_memory.Goals as goal

pub returns : goal.returns
returns c = lent_demand_3
