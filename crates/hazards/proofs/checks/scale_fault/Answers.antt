-- `checks::scale_fault` meets its contract.
use lib.Ieee.{of_bits}
use Rattle.hazards.proofs.checks.scale_fault.Goals as goal

pub returns : goal.returns
unfolding of_bits
returns c = rw c.in_range-out_of_range.ensures
