-- `rate_for_wait::bracket_around` meets its contract: all rates, or what two quotients leave of them.
use mathlib.Core.Path.{sym, ◌∙◌}
use native.Mathlib.Omega.{arith}
use Rattle.hazards.proofs.Bisection.{whole, lower_half, upper_half}
use Rattle.hazards.proofs.RateForWait.{nearest_number, goes_on}
use Rattle.hazards.proofs.rate_for_wait.bracket_around.Goals as goal

pub float_to_bits-near : goal.float_to_bits-near
float_to_bits-near c = nearest_number c.args.threshold c.args.wait c.requires

-- the first pattern is behind the one below and not behind the one above
pub returns-then-used_up_within-2 : goal.returns-then-used_up_within-2
returns-then-used_up_within-2 c =
    let m = goes_on c.args.threshold c.args.wait c.requires in
    lower_half
    (upper_half m (whole (omega arith)) (omega arith) (omega arith) (sym c.used_up_within.ensures ∙ c.if-used_up_within.false))
    (omega arith) (omega arith) (sym c.used_up_within-2.ensures ∙ c.if-used_up_within-2.true)
