-- What the code's answers mean: a batch run in its parts: what ends it before an input, one command answered, the run between two inputs,
-- and the run from opening.
use Rattle.std.specs.Prelude.{◌≡◌, Bool, false, cond, ◌&&◌, List, ◌++◌, ℕ, ◌+◌, ◌-◌, ◌*◌, ◌<◌, ◌≤◌, eqb, leb, length, drop, replicate}
use Rattle.std.proofs.Math.Seq.{paste}
use Rattle.hazards.specs.Fields.{bytes_of}
use Rattle.hazards.specs.Answers.{answer_width, no_event, with_answer}
use Rattle.hazards.specs.declared.answers.Answer.{Answer}
use Rattle.engine.specs.Commands.{width_of, front_refusal}
use Rattle.engine.specs.Refusals.{answers_full}
use Rattle.engine.specs.Opening.{opened_state}
use Rattle.engine.specs.Commands as commands
use Rattle.engine.specs.Engine.{Bytes, code}
use Rattle.engine.specs.Run.{Ran, run_from}
use Rattle.engine.specs.Demand3.{session_after}
use Rattle.engine.specs.State.{EngineState}
use Rattle.engine.specs.Execution.{perform}
use Rattle.engine.specs.StateRows.{shared_from, state_from, Performs}
use Rattle.engine.specs.ExecutionInternals.{TakenBack}
use Rattle.engine.specs.declared.run.Progress.{Progress}
use Rattle.clocks.specs.Layout.{WordRows, FloatRows}

-- the number that ends a run, or 0, with the answers and the result
pub record Stop : Type 0 where
  pub number : ℕ
  pub answers : Bytes
  pub result : Bytes

-- as the code leaves them
abbrev pub stop : ℕ → Bytes → Bytes → Stop
stop number answers result = record { number = number; answers = answers; result = result }

-- by the 2 or 3 that the input is refused by, which is answered and counted; 0 goes on and writes nothing
abbrev pub stop_by : ℕ → Bytes → Bytes → ℕ → ℕ → Stop
stop_by number answers result answered read =
    cond (eqb number 0) (stop 0 answers result)
    (stop number (with_answer answers (answer_width * answered) (no_event number)) (bytes_of 8 (answered + 1) ++ bytes_of 8 read))

-- 17 first, if under an answer's bytes are left
unfoldable pub stop_at : Bytes → Bytes → Bytes → ℕ → ℕ → Stop
stop_at input answers result answered read =
    cond (leb (answer_width * answered + answer_width) (length answers)) (stop_by (front_refusal input) answers result answered read)
    (stop answers_full answers (bytes_of 8 answered ++ bytes_of 8 read))

-- the journal and the answers after a command
pub record JournalAndAnswers : Type 0 where
  pub journal : Bytes
  pub answers : Bytes

-- as the code leaves them
abbrev pub journal_and_answers : Bytes → Bytes → JournalAndAnswers
journal_and_answers journal answers = record { journal = journal; answers = answers }

-- a refusal is answered by its number alone; an accepted command is copied into the free part
abbrev pub answer_at : ℕ → Answer → ℕ → Bytes → Bytes → ℕ → Bytes → JournalAndAnswers
answer_at number a free journal answers place c =
    cond (eqb number 0) (journal_and_answers (paste journal free c (length c)) (with_answer answers place a))
    (journal_and_answers journal (with_answer answers place (no_event number)))

-- what a command but UNDO leaves: the state that it is defined to, and the journal and the answers by its answer
pub record AnswersCommand (stream : Bytes) (w : WordRows) (f : FloatRows) (journal answers : Bytes) (place : ℕ) (c : Bytes)
    (w' : WordRows) (f' : FloatRows) (journal' answers' : Bytes) (applied : ℕ) : Type 0 where
  pub answer : Answer
  pub performs : Performs w f (perform stream (length journal) (state_from w f) c) w' f' answer
  pub written : journal_and_answers journal' answers'
      ≡ answer_at answer.number answer (shared_from w).applied_length journal answers place c
  pub counted : applied ≡ (shared_from w').applied_length

-- whether the next input is an UNDO whose answer has room beside the one at a place
abbrev pub is_undone : Bytes → ℕ → ℕ → Bool
is_undone rest room place = eqb (code rest) commands.undo && leb (place + (answer_width + answer_width)) room

-- a command's answer, and that of the UNDO after it
abbrev pub both_answered : Answer → Bytes → ℕ → Bytes
both_answered a answers place = with_answer (with_answer answers place a) (place + answer_width) (no_event 0)

-- what a command leaves that is taken back by the UNDO after it where it is accepted
pub record AnswersUndone (stream : Bytes) (n : ℕ) (w : WordRows) (f : FloatRows) (answers : Bytes) (place : ℕ) (c : Bytes)
    (w' : WordRows) (f' : FloatRows) (answers' : Bytes) (accepted : Bool) : Type 0 where
  pub answer : Answer
  pub taken : TakenBack w f (perform stream n (state_from w f) c) w' f' answer
  pub by_number : accepted ≡ eqb answer.number 0
  pub written : answers' ≡ cond accepted (both_answered answer answers place) (with_answer answers place answer)

-- the state and the journal of an engine that was opened with a journal of n bytes and given some inputs
pub record Reached (stream : Bytes) (n : ℕ) (s : EngineState) (j : Bytes) : Type 0 where
  pub inputs : List Bytes
  pub state : (session_after stream n inputs).state ≡ s
  pub journal : (session_after stream n inputs).journal ≡ j

-- a run between two inputs: an engine in use, whose state the rows hold unless they are stale, and the length of its applied
-- commands. Each command answered has taken a byte or more of the commands, and the place of its answer
pub record Ongoing (commands stream : Bytes) (w : WordRows) (f : FloatRows) (journal answers : Bytes) (p : Progress) : Type 0 where
  pub state : EngineState
  pub reached : Reached stream (length journal) state journal
  pub fresh : p.stale ≡ false → state_from w f ≡ state
  pub applied : p.applied ≡ state.shared.applied_length
  pub few : p.answered ≤ p.read
  pub within : p.read ≤ length commands
  pub room : answer_width * p.answered ≤ length answers

-- what the run gives from there on, with the engine in the state s
abbrev pub rest_of_run : Bytes → Bytes → EngineState → Bytes → Bytes → Progress → Ran
rest_of_run commands stream s journal answers p =
    run_from (length commands - p.answered) stream s journal answers p.answered p.read (drop p.read commands)

-- the input there is a whole command, and its answer has room
pub record HasInput (commands answers : Bytes) (p : Progress) : Type 0 where
  pub wide : 0 < width_of (code (drop p.read commands))
  pub long : width_of (code (drop p.read commands)) ≤ length (drop p.read commands)
  pub space : answer_width * p.answered + answer_width ≤ length answers

-- what an input leaves that is answered, alone or with the UNDO after it: the run is further on, and gives from there what it gave from
-- before the input, in the state s
pub record AnswersInput (commands stream : Bytes) (s : EngineState) (journal answers : Bytes) (p : Progress) (w' : WordRows)
    (f' : FloatRows) (journal' answers' : Bytes) (p' : Progress) : Type 0 where
  pub ongoing : Ongoing commands stream w' f' journal' answers' p'
  pub further : p.read < p'.read
  pub same : rest_of_run commands stream ongoing.state journal' answers' p' ≡ rest_of_run commands stream s journal answers p

-- the run from opening, with a journal of n bytes
abbrev pub opened_run : Bytes → Bytes → ℕ → Bytes → Ran
opened_run commands stream n answers = run_from (length commands) stream opened_state (replicate n 0) answers 0 0 commands
