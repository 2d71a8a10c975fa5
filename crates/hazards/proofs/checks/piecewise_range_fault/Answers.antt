-- `checks::piecewise_range_fault` meets its contract.
use Rattle.hazards.specs.Checks.{range_fault}
use Rattle.hazards.proofs.checks.piecewise_range_fault.Goals as goal

pub returns : goal.returns
unfolding range_fault
returns c = λ ends. rw (c.in_range-own.ensures, c.rates_in_range-used.ensures ends)
