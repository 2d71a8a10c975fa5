-- `theorem::every_order` meets its contract.
use Rattle.hazards.proofs.Reorderings.{every_order}
use Rattle.hazards.proofs.theorem.every_order.Goals as goal

pub returns : goal.returns
returns c = every_order
