-- `rates::Pairs::interval_after` meets its contract: at each turn i pieces and then those before the first after t, among the pieces from i on,
-- are those before the first after t.
use mathlib.Core.Path.{◌≡◌}
use Prim.Native.Nat.{◌+◌, ◌-◌}
use Rattle.hazards.specs.Rates.{lent_pairs, pieces_by, pair_at, used_pairs, first_after}
use Rattle.hazards.proofs.rates.Pairs.interval_after.Given as goal

abbrev pub invariant-loop-i : goal.invariant-loop-i
invariant-loop-i l =
    l.i + first_after l.t (pieces_by (pair_at (lent_pairs l.self)) l.i (l.used - l.i))
    ≡ first_after l.t (used_pairs (lent_pairs l.self))
