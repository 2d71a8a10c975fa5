-- `rates::Pairs::cumulative` meets its contract: at each turn the cumulative hazard over the pieces from i on, added to cum, is
-- that over all used pairs.
use mathlib.Core.Path.{◌≡◌}
use Prim.Native.Nat.{◌-◌}
use Rattle.hazards.specs.Floats.{z}
use Rattle.hazards.specs.Rates.{lent_pairs, pieces_by, pair_at, used_pairs, piecewise_cumulative}
use Rattle.hazards.proofs.rates.Pairs.cumulative.Given as goal

abbrev pub invariant-loop-i : goal.invariant-loop-i
invariant-loop-i l =
    piecewise_cumulative (pieces_by (pair_at (lent_pairs l.self)) l.i (l.used - l.i)) l.trailing l.t l.cum l.cur_t
    ≡ piecewise_cumulative (used_pairs (lent_pairs l.self)) l.trailing l.t z z
