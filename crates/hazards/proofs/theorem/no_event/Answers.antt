-- `theorem::no_event` meets its contract.
use Rattle.hazards.proofs.ListOrder.{no-event}
use Rattle.hazards.proofs.theorem.no_event.Goals as goal

pub returns : goal.returns
returns c = no-event
