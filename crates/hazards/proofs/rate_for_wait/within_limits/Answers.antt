-- `rate_for_wait::within_limits` meets its contract: the four comparisons are the definition's.
use mathlib.Core.Path.{refl}
use lib.Ieee.{of_bits}
use Rattle.hazards.specs.RateForWait.{within_limits}
use Rattle.hazards.proofs.rate_for_wait.within_limits.Goals as goal

pub returns : goal.returns
unfolding within_limits of_bits
returns c = refl
