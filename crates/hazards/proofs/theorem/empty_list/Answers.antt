-- `theorem::empty_list` meets its contract.
use Rattle.hazards.proofs.ListOrder.{empty_list}
use Rattle.hazards.proofs.theorem.empty_list.Goals as goal

pub returns : goal.returns
returns c = empty_list
