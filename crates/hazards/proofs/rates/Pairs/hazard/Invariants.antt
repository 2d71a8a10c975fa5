-- `rates::Pairs::hazard` meets its contract: at each turn the hazard over the pieces from i on is the hazard over all used pairs.
use mathlib.Core.Path.{◌≡◌}
use Prim.Native.Nat.{◌-◌}
use Rattle.hazards.specs.Rates.{lent_pairs, pieces_by, pair_at, used_pairs, piecewise_hazard}
use Rattle.hazards.proofs.rates.Pairs.hazard.Given as goal

abbrev pub invariant-loop-i : goal.invariant-loop-i
invariant-loop-i l =
    piecewise_hazard (pieces_by (pair_at (lent_pairs l.self)) l.i (l.used - l.i)) l.trailing l.t
    ≡ piecewise_hazard (used_pairs (lent_pairs l.self)) l.trailing l.t
