-- `checks::ends_ascend` meets its contract.
use mathlib.Core.Path.{◌≡◌}
use Prim.Native.Nat.{◌-◌}
use Rattle.hazards.specs.Checks.{ascending}
use Rattle.hazards.specs.Floats.{z}
use Rattle.hazards.specs.Rates.{lent_pairs, pieces_by, pair_at, used_pairs}
use Rattle.hazards.proofs.checks.ends_ascend.Given as goal

abbrev pub invariant-loop-i : goal.invariant-loop-i
invariant-loop-i l =
    ascending l.before (pieces_by (pair_at (lent_pairs l.pairs)) l.i (l.used - l.i)) ≡ ascending z (used_pairs (lent_pairs l.pairs))
