-- `rates::hazard_at` meets its contract: a negative time, then each constructor.
use lib.Ieee.{of_bits}
use Rattle.hazards.specs.Rates.{hazard_at, hazard_of_rate}
use Rattle.hazards.proofs.rates.hazard_at.Goals as goal

pub returns-then-t : goal.returns-then-t
unfolding hazard_at hazard_of_rate of_bits
returns-then-t c = simp c.if-t.true

pub returns-in-Zero : goal.returns-in-Zero
unfolding hazard_at hazard_of_rate of_bits
returns-in-Zero c = simp (c.if-t.false, c.in-Zero.is)

pub returns-in-Constant : goal.returns-in-Constant
unfolding hazard_at hazard_of_rate of_bits
returns-in-Constant c = simp (c.if-t.false, c.in-Constant.is) c.not_below_zero.ensures

pub returns-then-eta : goal.returns-then-eta
unfolding hazard_at hazard_of_rate of_bits
returns-then-eta c = simp (c.if-t.false, c.in-Gompertz.is, c.if-eta.true)

pub returns-else-eta : goal.returns-else-eta
unfolding hazard_at hazard_of_rate of_bits
returns-else-eta c = simp (c.if-t.false, c.in-Gompertz.is, c.if-eta.false)

pub returns-in-Piecewise : goal.returns-in-Piecewise
unfolding hazard_at hazard_of_rate of_bits
returns-in-Piecewise c = simp (c.if-t.false, c.in-Piecewise.is) c.hazard.ensures

pub returns-in-Weibull : goal.returns-in-Weibull
unfolding hazard_at hazard_of_rate of_bits
returns-in-Weibull c =
    simp (c.if-t.false, c.in-Weibull.is, ← c.not_below_zero-in-Weibull.ensures)
    c.weibull_hazard.ensures
