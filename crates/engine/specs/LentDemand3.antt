-- Demand 3 of the calls over lent memory: an engine is opened in it, whatever it held before, and inputs are executed there one after
-- another. It then holds the engine that demand 3 speaks of (Demand3), and a second engine, opened in other memory and given only the
-- applied commands, is left the same in every number.
use Rattle.std.specs.Prelude.{◌≡◌, true, List, [], ◌∷◌, ℕ, ◌<◌, eqb, length, get_or}
use Rattle.std.specs.Float.{nan}
use Rattle.hazards.specs.Lists.{all}
use Rattle.hazards.specs.declared.answers.Answer.{Answer}
use Rattle.clocks.specs.Layout.{WordRows, FloatRows}
use Rattle.engine.specs.State.{EngineState}
use Rattle.engine.specs.Comparison.{same_float}
use Rattle.engine.specs.Engine.{Bytes}
use Rattle.engine.specs.Answers.{answer_of}
use Rattle.engine.specs.Demand3.{session_after, reply_to, Demand3}
use Rattle.engine.specs.StateRows.{state_from}
use Rattle.engine.specs.InPlace.{has_sizes, is_state, Opens, ExecutesInput}

-- what a caller lends
pub record Memory : Type 0 where
  pub words : WordRows
  pub floats : FloatRows
  pub journal : Bytes

abbrev pub state_in : Memory → EngineState
state_in m = state_from m.words m.floats

-- what is lent keeps its lengths: no contract says so, since the language's slices do
pub record KeepsLengths (m m' : Memory) : Type 0 where
  pub words : length m'.words ≡ length m.words
  pub floats : length m'.floats ≡ length m.floats
  pub journal : length m'.journal ≡ length m.journal

-- ---- the calls, as their contracts say

-- `open` leaves m, of rows that have a state's sizes and a journal of n bytes
pub record OpensIn (n : ℕ) (m : Memory) : Type 0 where
  pub before : Memory
  pub number : ℕ
  pub sizes : has_sizes before.words before.floats ≡ true
  pub bytes : length before.journal ≡ n
  pub opens : Opens m.words m.floats before.journal m.journal number
  pub lengths : KeepsLengths before m

-- `execute`, lent m and given the input, answers a and leaves m'
pub record GivesOne (stream : Bytes) (m : Memory) (input : Bytes) (a : Answer) (m' : Memory) : Type 0 where
  pub executes : ExecutesInput stream m.words m.floats m.journal input m'.words m'.floats m'.journal a
  pub lengths : KeepsLengths m m'

-- the inputs one after another, and their answers
pub data Gives (stream : Bytes) : Memory → List Bytes → List Answer → Memory → Type 0 where
  none : {m : Memory} → Gives stream m [] [] m
  next : {m between m' : Memory} {i : Bytes} {is : List Bytes} {a : Answer} {answers : List Answer} → GivesOne stream m i a between
      → Gives stream between is answers m' → Gives stream m (i ∷ is) (a ∷ answers) m'

-- ---- what is claimed of the memory m after a list of inputs

module _ (stream : Bytes) (n : ℕ) (inputs : List Bytes) (m : Memory) where
  -- of a second engine's answers, and the memory that it leaves
  pub record LeftSame (answers : List Answer) (m' : Memory) : Type 0 where
    pub accepts_each : all (λ a. eqb a.number 0) answers ≡ true
    pub same-state : state_in m' ≡ state_in m
    pub same_journal : m'.journal ≡ m.journal
    -- number by number: every word, and every float by its bits
    pub same_words : (r i : ℕ) → r < 177 → i < 8 → get_or (get_or m'.words r []) i 0 ≡ get_or (get_or m.words r []) i 0
    pub same-floats : (r i : ℕ) → r < 400 → i < 8 → same_float (get_or (get_or m'.floats r []) i nan) (get_or (get_or m.floats r []) i nan) ≡ true

  pub record LentDemand3 : Type 0 where
    -- the rows are read as the state, and the journal is that, of the engine after the inputs, of which demand 3 holds
    pub state : state_in m ≡ (session_after stream n inputs).state
    pub journal : m.journal ≡ (session_after stream n inputs).journal
    pub demand_3 : Demand3 stream n inputs
    -- the rows stand for a state, and an input given after the list is answered as this engine answers it
    pub is_state : is_state m.words m.floats ≡ true
    pub answered : (input : Bytes) (a : Answer) (m' : Memory) → GivesOne stream m input a m' → a ≡ answer_of (reply_to stream n inputs input)
    -- a second engine, opened in other memory and given only the applied commands, accepts each and leaves the same
    pub alone : (other : Memory) (answers : List Answer) (m' : Memory) → OpensIn n other
        → Gives stream other (session_after stream n inputs).applied answers m' → LeftSame answers m'
