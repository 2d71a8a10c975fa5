-- Document 01, "Answer": the answer's fields for each reply, and what one input leaves: its answer, the state and the journal.
-- The answer's own fields and bytes are in hazards' Answers, which the sampler shares. What each command fills in is in
-- Execution (event_answer).
use Rattle.std.specs.Prelude.{List, ℕ}
use Rattle.hazards.specs.Answers.{no_event}
use Rattle.hazards.specs.declared.answers.Answer.{Answer}
use Rattle.engine.specs.Engine.{Bytes, Reply, refusal, reverted, completed, Outcome}
use Rattle.engine.specs.Instance.{engine_of}
use Rattle.engine.specs.State.{EngineState}

-- a refusal has its number and zero elsewhere, an accepted UNDO is all zero
abbrev pub answer_of : Reply Answer → Answer
answer_of (refusal number) = no_event number
answer_of reverted = no_event 0
answer_of (completed a) = a

-- answer, state and journal after an input
pub record AfterInput : Type 0 where
  pub answer : Answer
  pub state : EngineState
  pub journal : Bytes

abbrev pub after : (stream : List ℕ) (n : ℕ) → Outcome (engine_of stream n) → AfterInput
after stream n o = record { answer = answer_of o.reply; state = o.state; journal = o.journal }
