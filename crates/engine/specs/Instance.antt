-- Document 01's engine over a threshold stream (document 01: tape) and a journal of n bytes, and what the request ledger reads of it.
use Rattle.std.specs.Prelude.{List, [], ℕ}
use Rattle.hazards.specs.declared.answers.Answer.{Answer}
use Rattle.engine.specs.Commands.{width_of, clock_of, priority_of}
use Rattle.engine.specs.Opening.{opened_state}
use Rattle.engine.specs.Validation.{valid_state}
use Rattle.engine.specs.Comparison.{same_state}
use Rattle.engine.specs.Engine.{Bytes, Engine}
use Rattle.engine.specs.Sessions.{Session}
use Rattle.engine.specs.Execution.{perform}
use Rattle.engine.specs.Ledger.{LedgerFields}
use Rattle.engine.specs.State.{EngineState}

abbrev pub engine_of : List ℕ → ℕ → Engine
engine_of stream n = record {
  State = EngineState;
  Answer = Answer;
  opened = opened_state;
  applied_length = λ s. s.shared.applied_length;
  valid = valid_state stream n;
  same = same_state;
  width = width_of;
  perform = perform stream n;
}

-- an engine in use of this state and journal, with nothing applied
abbrev pub opened_with : (stream : List ℕ) (n : ℕ) → EngineState → Bytes → Session (engine_of stream n)
opened_with stream n s journal = record { state = s; journal = journal; applied = [] }

abbrev pub ledger_fields_of : (stream : List ℕ) (n : ℕ) → LedgerFields (engine_of stream n)
ledger_fields_of stream n = record {
  clock_of = clock_of;
  priority_of = priority_of;
  event = λ a. a.event;
  withdrawn = λ a. a.withdrawn;
  answer_ticks = λ a. record { low = a.ticks_low; high = a.ticks_high };
}
