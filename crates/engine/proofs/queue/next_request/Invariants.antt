-- `queue::next_request` meets its contract: at each turn `best` is the earliest of the requests from `i` on.
use mathlib.Core.Path.{◌≡◌}
use lib.ListN.{drop}
use Rattle.engine.specs.State.{queued_requests}
use Rattle.engine.specs.StateRows.{shared_from}
use Rattle.engine.specs.QueueInternals.{pick_of}
use Rattle.engine.specs.Queue.{next_request}
use Rattle.engine.proofs.queue.next_request.Given as goal

abbrev pub invariant-loop-i : goal.invariant-loop-i
invariant-loop-i l = pick_of l.best ≡ next_request (drop l.i (queued_requests (shared_from l.words)))
