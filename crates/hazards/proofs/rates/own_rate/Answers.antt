-- `rates::own_rate` meets its contract.
use lib.Ieee.{of_bits}
use Rattle.hazards.specs.Rates.{own_rate}
use Rattle.hazards.proofs.rates.own_rate.Goals as goal

pub returns-in-Zero : goal.returns-in-Zero
unfolding own_rate of_bits
returns-in-Zero c = rw c.in-Zero.is

pub returns-in-Constant : goal.returns-in-Constant
unfolding own_rate
returns-in-Constant c = rw c.in-Constant.is

pub returns-in-Gompertz : goal.returns-in-Gompertz
unfolding own_rate
returns-in-Gompertz c = rw c.in-Gompertz.is

pub returns-in-Piecewise : goal.returns-in-Piecewise
unfolding own_rate
returns-in-Piecewise c = rw c.in-Piecewise.is

pub returns-in-Weibull : goal.returns-in-Weibull
unfolding own_rate
returns-in-Weibull c = rw c.in-Weibull.is
