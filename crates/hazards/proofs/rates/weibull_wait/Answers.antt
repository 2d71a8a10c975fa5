-- `rates::weibull_wait` meets its contract: the scale is at most 0, or not.
use lib.Ieee.{of_bits}
use Rattle.hazards.specs.Rates.{weibull_wait}
use Rattle.hazards.proofs.rates.weibull_wait.Goals as goal

pub returns-then-scale : goal.returns-then-scale
unfolding weibull_wait of_bits
returns-then-scale c = simp c.if-scale.true

pub returns : goal.returns
unfolding weibull_wait of_bits
returns c =
    simp (c.if-scale.false, ← c.weibull_cumulative.ensures, ← c.nearest_root-s.ensures, ← c.not_below_zero.ensures, c.without_piece.ensures)
