-- `theorem::uncensored_winner` meets its contract.
use Rattle.hazards.proofs.ListOrder.{uncensored_winner}
use Rattle.hazards.proofs.theorem.uncensored_winner.Goals as goal

pub returns : goal.returns
returns c = uncensored_winner
