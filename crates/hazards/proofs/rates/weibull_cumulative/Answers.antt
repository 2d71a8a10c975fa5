-- `rates::weibull_cumulative` meets its contract: the scale is at most 0, or not.
use lib.Ieee.{of_bits}
use Rattle.hazards.specs.Rates.{weibull_cumulative}
use Rattle.hazards.proofs.rates.weibull_cumulative.Goals as goal

pub returns-then-scale : goal.returns-then-scale
unfolding weibull_cumulative of_bits
returns-then-scale c = simp c.if-scale.true

pub returns : goal.returns
unfolding weibull_cumulative of_bits
returns c = simp c.if-scale.false
