-- `checks::intervals_fault` meets its contract: each constructor.
use Rattle.hazards.specs.Checks.{intervals_fault}
use Rattle.hazards.proofs.checks.intervals_fault.Goals as goal

pub returns-in-Zero : goal.returns-in-Zero
unfolding intervals_fault
returns-in-Zero c = rw c.in-Zero.is c.unused_fault.ensures

pub returns-in-Constant : goal.returns-in-Constant
unfolding intervals_fault
returns-in-Constant c = rw c.in-Constant.is c.unused_fault-in-Constant.ensures

pub returns-in-Gompertz : goal.returns-in-Gompertz
unfolding intervals_fault
returns-in-Gompertz c = rw c.in-Gompertz.is c.unused_fault-in-Gompertz.ensures

pub returns-in-Piecewise : goal.returns-in-Piecewise
unfolding intervals_fault
returns-in-Piecewise c = rw c.in-Piecewise.is c.pairs_fault.ensures

pub returns-in-Weibull : goal.returns-in-Weibull
unfolding intervals_fault
returns-in-Weibull c = rw c.in-Weibull.is c.unused_fault-in-Weibull.ensures
