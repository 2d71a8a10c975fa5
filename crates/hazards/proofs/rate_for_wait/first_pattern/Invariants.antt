-- `rate_for_wait::first_pattern` meets its contract: the loop halves what the first place lies in.
use Prim.Native.Nat.{◌-◌}
use Rattle.hazards.specs.FirstPlace.{Between}
use Rattle.hazards.specs.RateForWaitInternals.{past_limit, used_up_within}
use Rattle.hazards.proofs.rate_for_wait.first_pattern.Given as goal

abbrev pub invariant-loop-low : goal.invariant-loop-low
invariant-loop-low l = Between (used_up_within l.threshold l.wait) 1 past_limit l.low l.high

abbrev pub decreases-loop-low : goal.decreases-loop-low
decreases-loop-low l = l.high - l.low
