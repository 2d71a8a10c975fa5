-- `rate_for_wait::first_pattern` meets its contract: the loop halves what the first place lies in.
use mathlib.Core.Path.{sym, ◌∙◌}
use native.Mathlib.Omega.{arith}
use Rattle.hazards.proofs.Bisection.{upper_half}
use Rattle.hazards.proofs.RateForWait.{goes_on}
use Rattle.hazards.proofs.rate_for_wait.first_pattern.Goals as goal

pub loop-low-preserved : goal.loop-low-preserved
loop-low-preserved c =
    upper_half (goes_on c.args.threshold c.args.wait c.requires) c.loop-low.invariant (omega arith) (omega arith)
    (sym c.used_up_within.ensures ∙ c.if-used_up_within.false)
