-- `theorem::demand_3_of_runs` meets its contract.
use Rattle.engine.proofs.RunInputs.{run_demand_3}
use Rattle.engine.proofs.theorem.demand_3_of_runs.Goals as goal

pub returns : goal.returns
returns c = run_demand_3
