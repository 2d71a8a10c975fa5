-- `floats::not_below_zero` meets its contract: x is above 0, or not.
use lib.Ieee.{of_bits}
use Rattle.hazards.specs.Floats.{not_below_zero}
use Rattle.hazards.proofs.floats.not_below_zero.Goals as goal

pub returns-then-x : goal.returns-then-x
unfolding not_below_zero of_bits
returns-then-x c = simp c.if-x.true

pub returns-else-x : goal.returns-else-x
unfolding not_below_zero of_bits
returns-else-x c = simp c.if-x.false
