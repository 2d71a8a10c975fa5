-- `checks::unused_are_zero` meets its contract.
use mathlib.Core.Bool.{◌&&◌}
use mathlib.Core.Path.{◌≡◌}
use Rattle.hazards.specs.Checks.{pairs_from, zero_pair}
use Rattle.hazards.specs.Lists.{all}
use Rattle.hazards.specs.Rates.{lent_pairs}
use Rattle.hazards.proofs.checks.unused_are_zero.Given as goal

abbrev pub invariant-loop-i : goal.invariant-loop-i
invariant-loop-i l =
    (l.zero && all zero_pair (pairs_from (lent_pairs l.pairs) l.i)) ≡ all zero_pair (pairs_from (lent_pairs l.pairs) l.from)
