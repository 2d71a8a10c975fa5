-- `floats::is_time` meets its contract.
use lib.Ieee.{of_bits}
use Rattle.hazards.specs.Floats.{is_time}
use Rattle.hazards.proofs.floats.is_time.Goals as goal

pub returns-then-x : goal.returns-then-x
unfolding is_time of_bits
returns-then-x c = rw c.if-x.true

pub returns-else-x : goal.returns-else-x
unfolding is_time of_bits
returns-else-x c = simp c.if-x.false
