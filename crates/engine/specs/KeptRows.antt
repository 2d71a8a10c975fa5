-- A clock and the shared state kept aside in rows of their own, so that a command can be taken back: ten rows of the clock's words, the
-- row of the counts, sixteen rows of requests; and the clock's twenty-five rows of floats.
use Rattle.std.specs.Prelude.{◌≡◌, [], true, ℕ, ◌+◌, ◌<◌, length, get_or, take}
use Rattle.clocks.specs.Layout.{WordRows, FloatRows, table, Coded}
use Rattle.engine.specs.StateRows.{slot_of, request_from, shared_of, coded_counts, coded_request}
use Rattle.engine.specs.State.{ClockSlot, SharedState}

-- ---- what they are read as

abbrev pub kept_slot : WordRows → FloatRows → ClockSlot
kept_slot w f = slot_of (take 10 w) f

abbrev pub kept_shared : WordRows → SharedState
kept_shared w = shared_of (get_or w 10 []) (table 16 (λ i. request_from (get_or w (11 + i) [])))

-- ---- their sizes, and which are coded

pub record SizedKept (w : WordRows) (f : FloatRows) : Type 0 where
  pub words : length w ≡ 27
  pub floats : length f ≡ 25

pub record CodedKept (w : WordRows) (f : FloatRows) : Type 0 where
  pub clock : Coded (take 10 w) f
  pub counts : coded_counts (get_or w 10 []) ≡ true
  pub requests : (i : ℕ) → i < 16 → coded_request (get_or w (11 + i) []) ≡ true
