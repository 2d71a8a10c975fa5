-- `rates::invert_cumulative_hazard` meets its contract: a w at most 0, then each constructor.
use lib.Ieee.{of_bits}
use Rattle.hazards.specs.Rates.{invert_cumulative_hazard, wait_of_rate}
use Rattle.hazards.proofs.rates.invert_cumulative_hazard.Goals as goal

pub returns-then-target_w : goal.returns-then-target_w
unfolding invert_cumulative_hazard wait_of_rate of_bits
returns-then-target_w c = simp (c.if-target_w.true, c.without_piece.ensures)

pub returns-in-Zero : goal.returns-in-Zero
unfolding invert_cumulative_hazard wait_of_rate of_bits
returns-in-Zero c = simp (c.if-target_w.false, c.in-Zero.is)

pub returns-in-Constant : goal.returns-in-Constant
unfolding invert_cumulative_hazard wait_of_rate of_bits
returns-in-Constant c =
    simp (c.if-target_w.false, c.in-Constant.is, ← c.not_below_zero.ensures)
    c.constant_wait.ensures

pub returns-in-Gompertz : goal.returns-in-Gompertz
unfolding invert_cumulative_hazard wait_of_rate of_bits
returns-in-Gompertz c = simp (c.if-target_w.false, c.in-Gompertz.is) c.constant_wait-in-Gompertz.ensures

pub returns-in-Piecewise : goal.returns-in-Piecewise
unfolding invert_cumulative_hazard wait_of_rate of_bits
returns-in-Piecewise c =
    simp (c.if-target_w.false, c.in-Piecewise.is, ← c.not_below_zero-in-Piecewise.ensures)
    c.wait.ensures

pub returns-in-Weibull : goal.returns-in-Weibull
unfolding invert_cumulative_hazard wait_of_rate of_bits
returns-in-Weibull c =
    simp (c.if-target_w.false, c.in-Weibull.is, ← c.not_below_zero-in-Weibull.ensures)
    c.weibull_wait.ensures
