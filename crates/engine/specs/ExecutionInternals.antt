-- What the code needs of a state to perform a command on it, so that its counts do not wrap; what a command that is taken back leaves; and
-- what a rescheduled clock does to the queue.
use Rattle.std.specs.Prelude.{Result, IfOk, cond, true, ◌≤◌, ◌<◌, ◌^◌, ℕ, ◌≡◌, List}
use Rattle.engine.specs.Commands as commands
use Rattle.engine.specs.Commands.{width_of, byte_at}
use Rattle.engine.specs.Execution.{withdraw, request_of}
use Rattle.engine.specs.State.{SharedState, slot_at, queued_requests, with_request, EngineState}
use Rattle.std.proofs.Math.Option.{some}
use Rattle.hazards.specs.Answers.{no_event}
use Rattle.hazards.specs.declared.answers.Answer.{Answer}
use Rattle.clocks.specs.Layout.{WordRows, FloatRows}
use Rattle.clocks.specs.RowsInternals.{QueueChange}
use Rattle.engine.specs.Queue.{next_request}
use Rattle.engine.specs.Engine.{Performed}
use Rattle.engine.specs.StateRows.{shared_from, state_from, SizedState, CodedState, performed_of, Performs}
use Rattle.engine.specs.declared.state.Request.{Request}
use Rattle.engine.specs.Refusals.{answer_from}
use Rattle.hazards.specs.declared.refusals.Refusal.{Refusal}

-- a valid state's shared state is within this: the requests are at most the applied bytes, which are at most the journal's
pub record Countable (p : SharedState) : Type 0 where
  pub places : p.queued ≤ 16
  pub requests : p.request_count < 2 ^ 63

-- the shared state once a rescheduled clock's old event is withdrawn and its new one queued
abbrev pub requeued : SharedState → List ℕ → QueueChange → SharedState
requeued p c change =
    let left = withdraw p change.withdrawn in
    cond change.event.present (with_request left (request_of left c change.ticks)) left

-- a command's bytes begin with the code of one that is no UNDO
abbrev pub IsCommand : List ℕ → Type 0
IsCommand c = (0 < width_of (byte_at c 0)) × (byte_at c 0 ≡ commands.undo → ⊥)

-- what trying a command leaves: what performing it does, with the answer to its outcome; where it is accepted, that has number 0
abbrev pub Tries : WordRows → FloatRows → Performed EngineState Answer → WordRows → FloatRows → Result Answer Refusal → Type 0
Tries w f o w' f' r = Performs w f o w' f' (answer_from r) × IfOk r (λ a. a.number ≡ 0)

-- a valid state is within this: its sizes, its counts, and that the next request is for one of the sixteen clocks, which is there
pub record Ready (w : WordRows) (f : FloatRows) : Type 0 where
  pub sized : SizedState w f
  pub counts : Countable (shared_from w)
  pub next : (r : Request) → next_request (queued_requests (shared_from w)) ≡ some r → r.clock < 16
  pub there : (r : Request) → next_request (queued_requests (shared_from w)) ≡ some r → (slot_at (state_from w f) r.clock).present ≡ true

-- what a command that is taken back at once leaves: its answer as it is defined, and every field of the state as it was
pub record TakenBack (w : WordRows) (f : FloatRows) (o : Performed EngineState Answer) (w' : WordRows) (f' : FloatRows) (a : Answer)
    : Type 0 where
  pub taken : EngineState
  pub does : performed_of taken a ≡ o
  pub refused : (a.number ≡ 0 → ⊥) → a ≡ no_event a.number
  pub same : state_from w' f' ≡ state_from w f
  pub coded : CodedState w f → CodedState w' f'
