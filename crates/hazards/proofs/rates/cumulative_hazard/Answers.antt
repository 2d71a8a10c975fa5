-- `rates::cumulative_hazard` meets its contract: a time at most 0, then each constructor.
use lib.Ieee.{of_bits}
use Rattle.hazards.specs.Rates.{cumulative_hazard, cumulative_of_rate}
use Rattle.hazards.proofs.rates.cumulative_hazard.Goals as goal

pub returns-then-t : goal.returns-then-t
unfolding cumulative_hazard cumulative_of_rate of_bits
returns-then-t c = simp c.if-t.true

pub returns-in-Zero : goal.returns-in-Zero
unfolding cumulative_hazard cumulative_of_rate of_bits
returns-in-Zero c = simp (c.if-t.false, c.in-Zero.is)

pub returns-in-Constant : goal.returns-in-Constant
unfolding cumulative_hazard cumulative_of_rate of_bits
returns-in-Constant c = simp (c.if-t.false, c.in-Constant.is, c.not_below_zero.ensures)

pub returns-then-eta : goal.returns-then-eta
unfolding cumulative_hazard cumulative_of_rate of_bits
returns-then-eta c = simp (c.if-t.false, c.in-Gompertz.is, c.if-eta.true)

pub returns-else-eta : goal.returns-else-eta
unfolding cumulative_hazard cumulative_of_rate of_bits
returns-else-eta c = simp (c.if-t.false, c.in-Gompertz.is, c.if-eta.false)

pub returns-in-Piecewise : goal.returns-in-Piecewise
unfolding cumulative_hazard cumulative_of_rate of_bits
returns-in-Piecewise c = simp (c.if-t.false, c.in-Piecewise.is) c.cumulative.ensures

pub returns-in-Weibull : goal.returns-in-Weibull
unfolding cumulative_hazard cumulative_of_rate of_bits
returns-in-Weibull c = simp (c.if-t.false, c.in-Weibull.is) c.weibull_cumulative.ensures
