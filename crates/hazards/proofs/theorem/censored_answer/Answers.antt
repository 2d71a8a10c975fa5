-- `theorem::censored_answer` meets its contract.
use Rattle.hazards.proofs.ListOrder.{censored_answer}
use Rattle.hazards.proofs.theorem.censored_answer.Goals as goal

pub returns : goal.returns
returns c = censored_answer
