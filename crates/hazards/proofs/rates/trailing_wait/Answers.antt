-- `rates::trailing_wait` meets its contract: the trailing rate is at most 0, or not.
use lib.Ieee.{of_bits}
use Rattle.hazards.specs.Rates.{wait_from}
use Rattle.hazards.proofs.rates.trailing_wait.Goals as goal

pub returns-then-rate : goal.returns-then-rate
unfolding wait_from of_bits
returns-then-rate c = simp (← c.not_below_zero-rate.ensures, c.if-rate.true)

pub returns-else-rate : goal.returns-else-rate
unfolding wait_from of_bits
returns-else-rate c = simp (← c.not_below_zero-rate.ensures, c.if-rate.false) c.ends_in.ensures
