-- The calls over lent memory: an engine is opened in it, and one input is executed on it. Rows of other sizes, and rows that are not coded
-- as a state's, are no state that could be handed in: both calls refuse by 1 and change nothing.
use Rattle.std.specs.Prelude.{◌≡◌, Bool, true, false, ◌&&◌, ℕ, eqb, length, replicate}
use Rattle.hazards.specs.Answers.{no_event}
use Rattle.hazards.specs.Refusals.{invalid_state}
use Rattle.hazards.specs.declared.answers.Answer.{Answer}
use Rattle.clocks.specs.Layout.{WordRows, FloatRows}
use Rattle.engine.specs.Opening.{opened_state}
use Rattle.engine.specs.Engine.{Bytes}
use Rattle.engine.specs.Execute.{execute}
use Rattle.engine.specs.Instance.{engine_of}
use Rattle.engine.specs.Answers.{AfterInput, after}
use Rattle.engine.specs.StateRows.{state_from, coded_state, CodedState}

-- 177 rows of words and 400 of floats
abbrev pub has_sizes : WordRows → FloatRows → Bool
has_sizes w f = eqb (length w) 177 && eqb (length f) 400

-- whether the rows stand for a state at all
abbrev pub is_state : WordRows → FloatRows → Bool
is_state w f = has_sizes w f && coded_state w f

-- ---- opening

-- what opening leaves: the opened state in coded rows, and a journal of zeros
pub record Opens (w' : WordRows) (f' : FloatRows) (j j' : Bytes) (number : ℕ) : Type 0 where
  pub accepted : number ≡ 0
  pub state : state_from w' f' ≡ opened_state
  pub coded : CodedState w' f'
  pub journal : j' ≡ replicate (length j) 0

-- ---- one input

-- the answer and the journal, and what the rows are read as
abbrev pub left_by : Answer → WordRows → FloatRows → Bytes → AfterInput
left_by a w f j = record { answer = a; state = state_from w f; journal = j }

-- what an input leaves of the rows w and f: what it is defined to; where it is refused, every word and float as it was
pub record Executes (w : WordRows) (f : FloatRows) (o : AfterInput) (w' : WordRows) (f' : FloatRows) (j' : Bytes) (a : Answer)
    : Type 0 where
  pub does : left_by a w' f' j' ≡ o
  pub keeps : (a.number ≡ 0 → ⊥) → (w' ≡ w) × (f' ≡ f)
  pub coded : CodedState w f → CodedState w' f'

-- one input as the engine over the stream and the journal's length executes it
abbrev pub input_on : Bytes → WordRows → FloatRows → Bytes → Bytes → AfterInput
input_on stream w f j input = after stream (length j) (execute (engine_of stream (length j)) (state_from w f) j input)

-- nothing is changed
pub record Refuses (w : WordRows) (f : FloatRows) (j : Bytes) (w' : WordRows) (f' : FloatRows) (j' : Bytes) : Type 0 where
  pub words : w' ≡ w
  pub floats : f' ≡ f
  pub journal : j' ≡ j

-- one input on any rows: as it is defined where they stand for a state, else refused by 1
abbrev pub ExecutesInput : Bytes → WordRows → FloatRows → Bytes → Bytes → WordRows → FloatRows → Bytes → Answer → Type 0
ExecutesInput stream w f j input w' f' j' a =
    (is_state w f ≡ true → Executes w f (input_on stream w f j input) w' f' j' a)
    × (is_state w f ≡ false → (a ≡ no_event invalid_state) × Refuses w f j w' f' j')
