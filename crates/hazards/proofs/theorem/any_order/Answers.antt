-- `theorem::any_order` meets its contract.
use Rattle.hazards.proofs.ListOrder.{any_order}
use Rattle.hazards.proofs.theorem.any_order.Goals as goal

pub returns : goal.returns
returns c = any_order
