-- `checks::range_fault` meets its contract: each constructor.
use Rattle.hazards.specs.Checks.{range_fault}
use mathlib.Core.Bool.{not}
use mathlib.Core.Path.{ap}
use Rattle.hazards.proofs.checks.range_fault.Goals as goal

pub returns-in-Zero : goal.returns-in-Zero
unfolding range_fault
returns-in-Zero c = λ ends. rw c.in-Zero.is

pub returns-in-Constant : goal.returns-in-Constant
unfolding range_fault
returns-in-Constant c = λ ends. rw c.in-Constant.is (ap not c.in_range.ensures)

pub returns-in-Gompertz : goal.returns-in-Gompertz
unfolding range_fault
returns-in-Gompertz c = λ ends. rw c.in-Gompertz.is (ap not c.in_range-in-Gompertz.ensures)

pub returns-in-Weibull : goal.returns-in-Weibull
unfolding range_fault
returns-in-Weibull c = λ ends. rw c.in-Weibull.is c.scale_fault.ensures
