-- `checks::ascends` meets its contract.
use lib.Ieee.{of_bits}
use Rattle.hazards.proofs.checks.ascends.Goals as goal

pub returns-then-before-end : goal.returns-then-before-end
unfolding of_bits
returns-then-before-end c = simp c.if-before-end.true
