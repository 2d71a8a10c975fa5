-- Refusal 1's tests by their parts: a slot, a request, the queue.
use mathlib.Core.Path.{◌≡◌, refl}
use mathlib.Core.Bool.{Bool, true, false, ◌&&◌}
use mathlib.Core.List.{List, [], ◌∷◌}
use Prim.Native.Nat.{ℕ, zero, suc, ◌<◌, ◌≤◌}
use native.Mathlib.Omega.{arith}
use borrow.Author.Tests.{lt-ltb, le-ltb, le-leb, lt-leb}
use lib.Dec.{eqb, ltb}
use lib.ListN.{length, get_or}
use Rattle.hazards.specs.Lists.{all}
use Rattle.clocks.specs.Validation.{valid_clock}
use Rattle.engine.specs.State.{empty_slot, queued_requests, ClockSlot, EngineState}
use Rattle.engine.specs.Validation.{valid_slot, valid_request, distinct, valid_queue}
use Rattle.engine.specs.declared.state.Request.{Request}

-- ---- lists

module _ {A : Type 0} where
  -- a read that is not past the last place gives what is there
  pub get_d_any : (l : List A) (i : ℕ) (d e : A) → i < length l → get_or l i d ≡ get_or l i e
  get_d_any [] i d e h = absurd (omega arith)
  get_d_any (x ∷ xs) zero d e h = refl
  get_d_any (x ∷ xs) (suc i) d e h = get_d_any xs i d e (omega arith)

-- ---- a slot

module _ (slot : ClockSlot) where
  pub slot_present : slot.present ≡ true → valid_slot slot ≡ valid_clock slot.clock
  unfolding valid_slot
  slot_present h = rw h

  pub slot_absent : slot.present ≡ false → valid_slot slot ≡ true
  unfolding valid_slot
  slot_absent h = rw h

-- ---- a request

-- what is asked of the slot that it names
abbrev pub slot_names : EngineState → Request → ClockSlot → Bool
slot_names s r slot =
    slot.present
    && (slot.clock.scheduled_event_id.present
    && (eqb slot.clock.scheduled_event_id.index r.index
    && (slot.clock.current_winner.present && ltb r.index s.shared.request_count)))

module _ (s : EngineState) (r : Request) where
  pub request_past : 16 ≤ r.clock → valid_request s r ≡ false
  unfolding valid_request
  request_past h = rw (le-ltb r.clock 16 h)

  pub request_within : (d : ClockSlot) → length s.slots ≡ 16 → r.clock < 16
      → valid_request s r ≡ slot_names s r (get_or s.slots r.clock d)
  unfolding valid_request
  request_within d sixteen h = rw (lt-ltb r.clock 16 h, get_d_any s.slots r.clock d empty_slot (omega arith))

-- ---- the queue

module _ (s : EngineState) where
  pub queue_over : 16 < s.shared.queued → valid_queue s ≡ false
  unfolding valid_queue
  queue_over h = rw (lt-leb s.shared.queued 16 h)

  pub queue_is : s.shared.queued ≤ 16
      → valid_queue s ≡ (all (valid_request s) (queued_requests s.shared) && distinct (queued_requests s.shared))
  unfolding valid_queue
  queue_is h = rw (le-leb s.shared.queued 16 h)
