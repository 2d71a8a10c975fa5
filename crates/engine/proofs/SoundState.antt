-- The invariant of the states reached from opening: it is stronger than refusal 1's test, which no command need keep.
use mathlib.Core.Path.{◌≡◌}
use mathlib.Core.Bool.{Bool, true, cond, ◌&&◌}
use mathlib.Core.List.{List}
use Prim.Native.Nat.{ℕ, ◌≤◌, ◌<◌}
use lib.ListN.{length}
use Rattle.hazards.specs.Draws.{stream_length}
use Rattle.engine.specs.Queue.{count_for}
use Rattle.engine.specs.State.{slot_at, queued_requests, ClockSlot, EngineState}
use Rattle.engine.specs.Validation.{distinct}
use Rattle.engine.specs.declared.state.Request.{Request}
use Rattle.clocks.proofs.Sound.{Each, SoundClock}

-- a present clock is sound
abbrev pub SoundSlot : ClockSlot → Type 0
SoundSlot slot = slot.present ≡ true → SoundClock slot.clock

-- whether a slot holds a clock that names a request
abbrev pub names_request : ClockSlot → Bool
names_request slot = slot.present && slot.clock.scheduled_event_id.present

-- a request of a queue, where slots holds the clocks and count is the requests made: its clock is present, names it and holds a winner,
-- and its index was given
pub record SoundRequest (slots : ℕ → ClockSlot) (count : ℕ) (r : Request) : Type 0 where
  pub clock : r.clock < 16
  pub present : (slots r.clock).present ≡ true
  pub named : (slots r.clock).clock.scheduled_event_id ≡ record { present = true; index = r.index }
  pub winner : (slots r.clock).clock.current_winner.present ≡ true
  pub index : r.index < count

-- no index is there twice, and a clock has one request queued where it names one, and none elsewhere
pub record SoundQueue (slots : ℕ → ClockSlot) (count : ℕ) (q : List Request) : Type 0 where
  pub requests : Each (SoundRequest slots count) q
  pub indices : distinct q ≡ true
  pub own : (k : ℕ) → count_for k q ≡ cond (names_request (slots k)) 1 0

pub record SoundState (stream : List ℕ) (n : ℕ) (s : EngineState) : Type 0 where
  pub slots : length s.slots ≡ 16
  pub clocks : Each SoundSlot s.slots
  pub places : length s.shared.queue ≡ 16
  pub queued : s.shared.queued ≤ 16
  pub queue : SoundQueue (slot_at s) s.shared.request_count (queued_requests s.shared)
  pub position : s.shared.position ≤ stream_length stream
  pub applied : s.shared.applied_length ≤ n
  pub count : s.shared.request_count ≤ s.shared.applied_length
