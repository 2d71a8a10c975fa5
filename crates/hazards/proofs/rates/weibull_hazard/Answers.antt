-- `rates::weibull_hazard` meets its contract: the scale is at most 0, or not.
use lib.Ieee.{of_bits}
use Rattle.hazards.specs.Rates.{weibull_hazard}
use Rattle.hazards.proofs.rates.weibull_hazard.Goals as goal

pub returns-then-scale : goal.returns-then-scale
unfolding weibull_hazard of_bits
returns-then-scale c = simp c.if-scale.true

pub returns-else-scale : goal.returns-else-scale
unfolding weibull_hazard of_bits
returns-else-scale c = simp c.if-scale.false
