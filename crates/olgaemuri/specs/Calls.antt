-- The call that C makes for one input: the engine's `execute`, with its answer as bytes.
use Rattle.std.specs.Prelude.{◌≡◌, ℕ}
use Rattle.hazards.specs.Answers.{with_answer}
use Rattle.hazards.specs.declared.answers.Answer.{Answer}
use Rattle.clocks.specs.Layout.{WordRows, FloatRows}
use Rattle.engine.specs.Engine.{Bytes}
use Rattle.engine.specs.InPlace.{ExecutesInput}

-- what is left of the rows, the journal and the answer's bytes: as `execute` leaves them, and its answer at the front of the bytes
pub record Answered (stream : Bytes) (w : WordRows) (f : FloatRows) (j input out : Bytes) (w' : WordRows) (f' : FloatRows) (j' out' : Bytes)
    (number : ℕ) : Type 0 where
  pub answer : Answer
  pub executes : ExecutesInput stream w f j input w' f' j' answer
  pub by_number : number ≡ answer.number
  pub bytes : out' ≡ with_answer out 0 answer
