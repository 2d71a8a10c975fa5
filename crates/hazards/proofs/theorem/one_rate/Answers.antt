-- `theorem::one_rate` meets its contract.
use Rattle.hazards.proofs.RateForWait.{one_answer}
use Rattle.hazards.proofs.theorem.one_rate.Goals as goal

pub returns : goal.returns
returns c = one_answer
