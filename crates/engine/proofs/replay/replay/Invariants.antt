-- `replay::replay` meets its contract: at each turn, what is left to replay ends as the whole.
use Prim.Native.Nat.{◌-◌}
use lib.ListN.{length}
use Rattle.engine.proofs.ReplayInPlace.{Replaying}
use Rattle.engine.proofs.replay.replay.Given as goal

abbrev pub invariant-loop-at : goal.invariant-loop-at
invariant-loop-at l = Replaying l.stream l.journal_length l.bytes l.words l.floats l.at

abbrev pub decreases-loop-at : goal.decreases-loop-at
decreases-loop-at l = length l.bytes - l.at
