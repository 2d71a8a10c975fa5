-- `execution::requeue` meets its contract.
use mathlib.Core.Path.{◌≡◌, ◌∙◌, ap}
use mathlib.Core.Bool.{Bool, cond}
use lib.ListN.{length}
use Rattle.clocks.specs.RowsInternals.{event_from}
use Rattle.engine.specs.State.{SharedState, with_request, with_applied_bytes}
use Rattle.engine.specs.Execution.{request_of, event_answer}
use Rattle.engine.specs.StateRows.{shared_from}
use Rattle.engine.proofs.ExecutionCases.{withdraw_countable, withdraw_applied, enqueue_applied}
use Rattle.engine.proofs.CommandsInPlace.{shared_as}
use Rattle.engine.proofs.SharedInPlace.{shared_then}
use Rattle.engine.proofs.execution.requeue.Goals as goal

pub enqueue-requires : goal.enqueue-requires
enqueue-requires c =
    let a = c.args in
    rw c.withdraw-withdrawn.ensures.0.shared (withdraw_countable (shared_from a.words.now) a.change.withdrawn c.requires.0)
