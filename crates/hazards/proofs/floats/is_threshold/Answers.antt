-- The two comparisons are the definition's.
use lib.Ieee.{of_bits}
use Rattle.hazards.specs.Floats.{is_threshold}
use Rattle.hazards.proofs.floats.is_threshold.Goals as goal

pub returns-then-x : goal.returns-then-x
unfolding is_threshold of_bits
returns-then-x c = simp c.if-x.true

pub returns-else-x : goal.returns-else-x
unfolding is_threshold of_bits
returns-else-x c = simp c.if-x.false
