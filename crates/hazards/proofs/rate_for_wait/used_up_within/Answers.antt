-- `rate_for_wait::used_up_within` meets its contract.
use mathlib.Core.Path.{refl}
use native.Mathlib.Omega.{arith}
use Rattle.hazards.specs.RateForWaitInternals.{used_up_within}
use Rattle.hazards.proofs.Patterns.{number_pattern}
use Rattle.hazards.proofs.rate_for_wait.used_up_within.Goals as goal

pub float_from_bits-result : goal.float_from_bits-result
float_from_bits-result c = number_pattern _ (omega (arith, c.requires))

pub returns : goal.returns
unfolding used_up_within
returns c = refl
