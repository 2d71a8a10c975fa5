-- `rates::constant_wait` meets its contract: the rate is at most 0, or not.
use lib.Ieee.{of_bits}
use Rattle.hazards.specs.Rates.{constant_wait}
use Rattle.hazards.proofs.rates.constant_wait.Goals as goal

pub returns-then-rate : goal.returns-then-rate
unfolding constant_wait of_bits
returns-then-rate c = simp c.if-rate.true

pub returns-else-rate : goal.returns-else-rate
unfolding constant_wait of_bits
returns-else-rate c = simp (c.if-rate.false, c.without_piece.ensures)
