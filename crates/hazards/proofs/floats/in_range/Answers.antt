-- `floats::in_range` meets its contract.
use lib.Ieee.{of_bits, neg}
use Rattle.hazards.specs.Floats.{in_range}
use Rattle.hazards.proofs.floats.in_range.Goals as goal

pub returns-then-x : goal.returns-then-x
unfolding in_range of_bits neg
returns-then-x c = simp c.if-x.true

pub returns-else-x : goal.returns-else-x
unfolding in_range of_bits neg
returns-else-x c = simp c.if-x.false
