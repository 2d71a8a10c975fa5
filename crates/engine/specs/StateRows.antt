-- The state in lent memory: 177 rows of eight words and 400 of eight floats, what they are read as, and which of them are coded as a
-- state's. Any other word or float is read as something too, so that every definition is total; refusal 1 sees it.
--
--   words 10 k to 10 k + 9 and floats 25 k to 25 k + 24: clock k (clocks' Layout)
--   words 160: requests queued, requests made, draw position, length of the applied commands; four spare
--   words 161 + i, of request i: clock, ticks low and high, priority in two's complement, index; three spare
use Rattle.std.specs.Prelude.{◌≡◌, Bool, true, cond, ◌&&◌, List, [], ℕ, ◌+◌, ◌*◌, ◌<◌, eqb, length, get_or, take, drop}
use Rattle.std.proofs.Common.{to_z}
use Rattle.std.specs.Int.{w32}
use Rattle.hazards.specs.Answers.{no_event}
use Rattle.hazards.specs.declared.answers.Answer.{Answer}
use Rattle.clocks.specs.Layout.{WordRows, FloatRows, table, every_below, u32_from, is_u32, clock_from, present_in, coded_clock, Coded}
use Rattle.clocks.specs.Clocks.{SurvivalClock}
use Rattle.engine.specs.Engine.{Performed, rejected, performed}
use Rattle.engine.specs.State.{slot_at, with_slot, ClockSlot, SharedState, EngineState}
use Rattle.engine.specs.declared.state.Request.{Request}

-- part k of rows that are cut into parts of n
abbrev pub part_at : {A : Type 0} → ℕ → ℕ → List A → List A
part_at n k rows = take n (drop (n * k) rows)

-- ---- what they are read as

-- a clock's rows
unfoldable pub slot_of : WordRows → FloatRows → ClockSlot
slot_of w f = record { present = present_in w; clock = clock_from w f }

abbrev pub slot_from : WordRows → FloatRows → ℕ → ClockSlot
slot_from w f k = slot_of (part_at 10 k w) (part_at 25 k f)

unfoldable pub request_from : List ℕ → Request
request_from row = record {
  clock = get_or row 0 0;
  ticks = record { low = get_or row 1 0; high = get_or row 2 0 };
  priority = to_z w32 (u32_from (get_or row 3 0));
  index = get_or row 4 0;
}

abbrev pub queue_from : WordRows → List Request
queue_from w = table 16 (λ i. request_from (get_or w (161 + i) []))

unfoldable pub shared_of : List ℕ → List Request → SharedState
shared_of row queue = record {
  queue = queue;
  queued = get_or row 0 0;
  request_count = get_or row 1 0;
  position = get_or row 2 0;
  applied_length = get_or row 3 0;
}

unfoldable pub shared_from : WordRows → SharedState
shared_from w = shared_of (get_or w 160 []) (queue_from w)

unfoldable pub state_from : WordRows → FloatRows → EngineState
state_from w f = record { slots = table 16 (λ k. slot_from w f k); shared = shared_from w }

-- ---- which are coded

unfoldable pub coded_counts : List ℕ → Bool
coded_counts row = eqb (get_or row 4 0) 0 && (eqb (get_or row 5 0) 0 && (eqb (get_or row 6 0) 0 && eqb (get_or row 7 0) 0))

unfoldable pub coded_request : List ℕ → Bool
coded_request row = is_u32 (get_or row 3 0) && (eqb (get_or row 5 0) 0 && (eqb (get_or row 6 0) 0 && eqb (get_or row 7 0) 0))

abbrev pub coded_requests : WordRows → Bool
coded_requests w = every_below 16 (λ i. coded_request (get_or w (161 + i) []))

abbrev pub coded_clocks : WordRows → FloatRows → Bool
coded_clocks w f = every_below 16 (λ k. coded_clock (part_at 10 k w) (part_at 25 k f))

unfoldable pub coded_state : WordRows → FloatRows → Bool
coded_state w f = coded_clocks w f && (coded_counts (get_or w 160 []) && coded_requests w)

-- the same as facts
pub record CodedShared (w : WordRows) : Type 0 where
  pub counts : coded_counts (get_or w 160 []) ≡ true
  pub requests : (i : ℕ) → i < 16 → coded_request (get_or w (161 + i) []) ≡ true

pub record CodedState (w : WordRows) (f : FloatRows) : Type 0 where
  pub clocks : (k : ℕ) → k < 16 → Coded (part_at 10 k w) (part_at 25 k f)
  pub shared : CodedShared w

-- ---- calls in place

-- the sizes of what is lent
pub record SizedState (w : WordRows) (f : FloatRows) : Type 0 where
  pub words : length w ≡ 177
  pub floats : length f ≡ 400

-- what a call leaves that changes the shared state alone
pub record LeavesShared (w w' : WordRows) (p : SharedState) : Type 0 where
  pub shared : shared_from w' ≡ p
  pub clocks : take 160 w' ≡ take 160 w
  pub coded : CodedShared w → CodedShared w'

-- what a call leaves that changes clock k alone: the clock c, at a place that is taken or not as before
pub record LeavesClock (w : WordRows) (f : FloatRows) (k : ℕ) (w' : WordRows) (f' : FloatRows) (c : SurvivalClock) : Type 0 where
  pub state : state_from w' f'
      ≡ with_slot (state_from w f) k (record { present = (slot_at (state_from w f) k).present; clock = c }) (shared_from w)
  pub shared : shared_from w' ≡ shared_from w
  pub coded : CodedState w f → CodedState w' f'

-- what a command's answer stands for: a refusal's number, or the state that is left and the answer
abbrev pub performed_of : EngineState → Answer → Performed EngineState Answer
performed_of s a = cond (eqb a.number 0) (performed s a) (rejected a.number)

-- what a command in place leaves: what it is defined to, and where it is refused every word and float as it was
pub record Performs (w : WordRows) (f : FloatRows) (o : Performed EngineState Answer) (w' : WordRows) (f' : FloatRows) (a : Answer)
    : Type 0 where
  pub does : performed_of (state_from w' f') a ≡ o
  pub keeps : (a.number ≡ 0 → ⊥) → (w' ≡ w) × (f' ≡ f) × (a ≡ no_event a.number)
  pub coded : CodedState w f → CodedState w' f'
