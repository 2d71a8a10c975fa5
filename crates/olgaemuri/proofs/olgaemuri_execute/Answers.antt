-- `olgaemuri_execute` meets its contract.
use mathlib.Core.Path.{refl}
use native.Mathlib.Omega.{arith}
use Rattle.olgaemuri.proofs.olgaemuri_execute.Goals as goal

pub returns-then-answer-lt-ANSWER_WIDTH : goal.returns-then-answer-lt-ANSWER_WIDTH
returns-then-answer-lt-ANSWER_WIDTH c =
    let short = c.if-answer-lt-ANSWER_WIDTH.true in
    ((λ h. absurd (omega arith)), (λ h. (c.number.ensures, refl, record { words = refl; floats = refl; journal = refl })))

pub returns : goal.returns
returns c = (
  (λ h.
      record {
        answer = c.execute-given.result;
        executes = c.execute-given.ensures;
        by_number = refl;
        bytes = c.put_answer.ensures;
      }),
  (λ h. absurd (omega (arith, c.if-answer-lt-ANSWER_WIDTH.false))),
)
