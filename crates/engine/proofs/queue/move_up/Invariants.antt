-- `queue::move_up` meets its contract: at each turn those of the first `i` requests that stay stand in the first places.
use Rattle.engine.proofs.QueueRowLaws.{Moving}
use Rattle.engine.proofs.queue.move_up.Given as goal

abbrev pub invariant-loop-i : goal.invariant-loop-i
invariant-loop-i l = Moving l.initial.words l.index l.i l.words l.kept
