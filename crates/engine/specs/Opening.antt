-- Document 01, "Clocks" and "Journal and undo": the state at opening, in which nothing exists.
use Rattle.std.specs.Prelude.{replicate}
use Rattle.engine.specs.State.{SharedState, EngineState, empty_request, empty_slot}

abbrev pub opened_shared : SharedState
opened_shared = record {
  queue = replicate 16 empty_request;
  queued = 0;
  request_count = 0;
  position = 0;
  applied_length = 0;
}

-- at opening nothing exists
unfoldable pub opened_state : EngineState
opened_state = record { slots = replicate 16 empty_slot; shared = opened_shared }
