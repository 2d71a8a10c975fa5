-- Demand 3, whole, of document 01's engine: what holds after any list of inputs, commands, UNDO and bytes that are no command among them,
-- given to a newly opened engine over a threshold stream (document 01: tape) and a journal of n bytes; and what it says of a batch run. Its
-- definitions: Sessions (inputs, applied commands), Execute (one input), Replay (UNDO), Ledger, Journal, Run.
use Rattle.std.specs.Prelude.{◌↔◌, ◌≡◌, true, List, [], ◌∷◌, ◌++◌, ℕ, ◌+◌, ◌-◌, ◌≤◌, length, take, replicate}
use Rattle.hazards.specs.Fields.{bytes_of}
use Rattle.hazards.specs.declared.answers.Answer.{Answer}
use Rattle.engine.specs.Commands as commands
use Rattle.engine.specs.Refusals.{nothing_applied}
use Rattle.engine.specs.Queue.{count_for}
use Rattle.engine.specs.State.{queued_requests}
use Rattle.engine.specs.Validation.{valid_state}
use Rattle.engine.specs.Engine.{Bytes, Reply, refusal, reverted, concat}
use Rattle.engine.specs.Execute.{execute}
use Rattle.engine.specs.Journal.{part, applied_part}
use Rattle.engine.specs.Sessions.{Session, feed_all, new_session, Accepted, AcceptsEach}
use Rattle.engine.specs.Ledger.{Ledger, empty_ledger, ledger_of}
use Rattle.engine.specs.Instance.{engine_of, ledger_fields_of}
use Rattle.engine.specs.Answers.{answer_of}
use Rattle.engine.specs.Run.{Ran, run_of, run_inputs}

-- how UNDO is answered, by the applied commands
abbrev pub undo_reply : List Bytes → Reply Answer
undo_reply [] = refusal nothing_applied
undo_reply (c ∷ cs) = reverted

module _ (stream : List ℕ) (n : ℕ) (inputs : List Bytes) where
  abbrev pub opened : Session (engine_of stream n)
  opened = new_session (engine_of stream n) n

  -- the engine after the inputs
  abbrev pub session_after : Session (engine_of stream n)
  session_after = feed_all (engine_of stream n) opened inputs

  -- a newly opened engine after the applied commands alone
  abbrev pub applied_alone : Session (engine_of stream n)
  applied_alone = feed_all (engine_of stream n) opened session_after.applied

  -- the ledger of the applied commands
  abbrev pub ledger : Ledger
  ledger = ledger_of (engine_of stream n) (ledger_fields_of stream n) opened empty_ledger session_after.applied

  -- how many requests for the clock k the engine's queue then holds
  abbrev pub queued : ℕ → ℕ
  queued k = count_for k (queued_requests session_after.state.shared)

  -- the reply to an input given after the list
  abbrev pub reply_to : Bytes → Reply Answer
  reply_to input = (execute (engine_of stream n) session_after.state session_after.journal input).reply

  pub record Demand3 : Type 0 where
    -- every field of the state and every byte of the journal are those of a newly opened engine that is given only the applied commands,
    -- and accepts each
    pub same-state : session_after.state ≡ applied_alone.state
    pub same_journal : session_after.journal ≡ applied_alone.journal
    pub accepts_each : AcceptsEach (engine_of stream n) opened session_after.applied
    -- an input given after the list is answered by number 0 exactly where it is accepted
    pub zero_accepted : (input : Bytes) → ((answer_of (reply_to input)).number ≡ 0) ↔ Accepted (engine_of stream n) (reply_to input)
    -- the journal keeps the length n of the engine, which the contract of `execute` reads off it; the part of it that `applied_commands`
    -- gives is the applied commands, one after another
    pub journal-length : length session_after.journal ≡ n
    pub applied-part : applied_part session_after.journal session_after.state.shared.applied_length
        ≡ part (concat session_after.applied) 0
    -- requests made = withdrawn + delivered + queued, for each clock, and at most one is queued
    pub balance : (k : ℕ) → (ledger.rows k).made ≡ (ledger.rows k).withdrawn + (ledger.rows k).delivered + queued k
    pub at_most_one : (k : ℕ) → queued k ≤ 1
    -- beyond the demand: the state is never refused by 1, and UNDO is refused only by 12, where no command is applied
    pub valid : valid_state stream n session_after.state ≡ true
    pub undo-reply : (rest : Bytes) → reply_to (commands.undo ∷ rest) ≡ undo_reply session_after.applied

-- ---- of a batch run

module _ (command_bytes stream journal answers result : Bytes) where
  -- the number that it returns, and the buffers as it leaves them
  abbrev pub ran : Ran
  ran = run_of command_bytes stream journal answers result

  -- the inputs that it executes
  abbrev pub inputs : List Bytes
  inputs = run_inputs command_bytes answers

  -- the applied commands of a newly opened engine that is given these inputs
  abbrev pub applied_in : List Bytes
  applied_in = (session_after stream (length journal) inputs).applied

  pub record RunDemand3 : Type 0 where
    -- the inputs are as many as the result's commands answered
    pub answered : take 8 ran.result ≡ bytes_of 8 (length inputs)
    -- the journal is the applied commands, one after another, and zero after them
    pub journal_applied : ran.journal ≡ concat applied_in ++ replicate (length journal - length (concat applied_in)) 0
    -- it is that of a newly opened engine that is given only the applied commands, and accepts each
    pub same_journal : ran.journal ≡ (applied_alone stream (length journal) inputs).journal
    pub accepts_each : AcceptsEach (engine_of stream (length journal)) (opened stream (length journal) inputs) applied_in
    -- demand 3 of the engine that is given the inputs
    pub demand_3 : Demand3 stream (length journal) inputs
