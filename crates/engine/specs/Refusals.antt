-- The refusals that are the engine's own; document 01's table stands whole in hazards' Refusals.antt.
pub use Rattle.hazards.specs.Refusals.{cut_short, no_command, clock_present, clock_absent, queue_empty, nothing_applied, replay_fails}
pub use Rattle.hazards.specs.Refusals.{journal_full, answers_full, bad_buffers, refused_number}
use Rattle.std.specs.Prelude.{Result, Ok, Err}
use Rattle.hazards.specs.Refusals.{number}
use Rattle.hazards.specs.Answers.{no_event}
use Rattle.hazards.specs.declared.answers.Answer.{Answer}
use Rattle.hazards.specs.declared.refusals.Refusal.{Refusal}

-- the answer of a command: a refusal's number and zero elsewhere
abbrev pub answer_from : Result Answer Refusal → Answer
answer_from (Ok answer) = answer
answer_from (Err refusal) = no_event (number refusal)
