-- `rate_for_wait::exact_rate` meets its contract.
use native.Mathlib.Omega.{arith}
use Rattle.hazards.specs.RateForWaitInternals.{exact_rate}
use Rattle.hazards.proofs.Patterns.{number_pattern}
use Rattle.hazards.proofs.rate_for_wait.exact_rate.Goals as goal

pub float_from_bits-rate : goal.float_from_bits-rate
float_from_bits-rate c = number_pattern _ (omega (arith, c.requires))

pub returns-then-threshold-rate : goal.returns-then-threshold-rate
unfolding exact_rate
returns-then-threshold-rate c = rw c.if-threshold-rate.true

pub returns : goal.returns
unfolding exact_rate
returns c = rw c.if-threshold-rate.false
