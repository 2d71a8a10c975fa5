-- Document 01, refusal 1: what a state handed in is tested for, in the words of its row, and no more. Only present clocks and used places
-- are looked at.
-- The part about one clock is in clocks' Validation.
use Rattle.std.specs.Prelude.{Bool, true, not, cond, ◌&&◌, List, [], ◌∷◌, ℕ, eqb, ltb, leb}
use Rattle.hazards.specs.Lists.{all}
use Rattle.hazards.specs.Draws.{stream_length}
use Rattle.clocks.specs.Validation.{valid_clock}
use Rattle.engine.specs.State.{slot_at, queued_requests, ClockSlot, SharedState, EngineState}
use Rattle.engine.specs.Queue.{is_queued}
use Rattle.engine.specs.declared.state.Request.{Request}

unfoldable pub valid_slot : ClockSlot → Bool
valid_slot slot = cond slot.present (valid_clock slot.clock) true

-- its clock is there, names it and holds a winner; its index is below the requests made
unfoldable pub valid_request : EngineState → Request → Bool
valid_request s r =
    let slot = slot_at s r.clock in
    ltb r.clock 16
    && (slot.present
    && (slot.clock.scheduled_event_id.present
    && (eqb slot.clock.scheduled_event_id.index r.index
    && (slot.clock.current_winner.present && ltb r.index s.shared.request_count))))

-- no index twice
unfoldable pub distinct : List Request → Bool
distinct [] = true
distinct (r ∷ rs) = not (is_queued r.index rs) && distinct rs

unfoldable pub valid_queue : EngineState → Bool
valid_queue s =
    leb s.shared.queued 16
    && (all (valid_request s) (queued_requests s.shared) && distinct (queued_requests s.shared))

unfoldable pub valid_shared : List ℕ → ℕ → SharedState → Bool
valid_shared stream journal_length p =
    leb p.position (stream_length stream)
    && (leb p.applied_length journal_length && leb p.request_count p.applied_length)

unfoldable pub valid_state : List ℕ → ℕ → EngineState → Bool
valid_state stream journal_length s =
    all valid_slot s.slots && (valid_queue s && valid_shared stream journal_length s.shared)
