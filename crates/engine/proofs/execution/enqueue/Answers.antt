-- `execution::enqueue` meets its contract: no event, and one that is queued.
use mathlib.Core.Path.{sym, ◌∙◌, ap, ap₂}
use mathlib.Core.Bool.{not}
use Prim.Native.Nat.{ℕ}
use lib.IntN.{ℤ}
use Rattle.clocks.specs.RowsInternals.{event_from}
use Rattle.engine.specs.State.{with_request}
use Rattle.engine.specs.Execution.{request_of}
use Rattle.engine.specs.StateRows.{shared_of, shared_from}
use Rattle.engine.proofs.EventOptions.{none_present, some_present}
use Rattle.engine.proofs.ExecutionCases.{enqueue_none, enqueue_one}
use Rattle.engine.proofs.CommandsInPlace.{shared_as}
use Rattle.engine.proofs.QueueLaws.{reads_back}
use Rattle.engine.proofs.SharedInPlace.{shared_none}
use Rattle.engine.proofs.execution.enqueue.Goals as goal

pub returns-then-is_none : goal.returns-then-is_none
returns-then-is_none c =
    let a = c.args in
    let w = a.words.now in
    let p = shared_from w in
    shared_none w
    (enqueue_none p (request_of p a.command.now a.change.ticks) {t = (event_from a.change.event).present}
    (none_present a.change.event (c.is_none.ensures ∙ ap not c.if-is_none.true)))

pub returns : goal.returns
unfolding shared_from shared_of
returns c =
    let a = c.args in
    let p = shared_from a.words.now in
    let number = sym (reads_back c.i32_at.result c.i32_at.type_inv) in
    shared_as c.put_in.ensures
    (ap₂ (λ (k : ℕ) (z : ℤ). with_request p (record { clock = k; ticks = a.change.ticks; priority = z; index = p.request_count }))
    c.byte_at.ensures (number ∙ c.i32_at.ensures)
    ∙ enqueue_one p (request_of p a.command.now a.change.ticks) {t = (event_from a.change.event).present}
    (some_present a.change.event (c.is_none.ensures ∙ ap not c.if-is_none.false)))
