-- `floats::is_finite_wait` meets its contract.
use lib.Ieee.{of_bits, div}
use Rattle.hazards.specs.Floats.{is_finite_wait}
use Rattle.hazards.proofs.floats.is_finite_wait.Goals as goal

pub returns-then-x : goal.returns-then-x
unfolding is_finite_wait of_bits div
returns-then-x c = simp c.if-x.true

pub returns-else-x : goal.returns-else-x
unfolding is_finite_wait of_bits
returns-else-x c = simp c.if-x.false
