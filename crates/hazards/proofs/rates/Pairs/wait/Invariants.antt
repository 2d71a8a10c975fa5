-- `rates::Pairs::wait` meets its contract: at each turn the wait over the pieces from i on, for what is left of w, is the wait
-- from the start.
use mathlib.Core.Path.{◌≡◌}
use Prim.Native.Nat.{◌-◌}
use Rattle.hazards.specs.Rates.{lent_pairs, pieces_by, pair_at, used_pairs, wait_from, piecewise_wait}
use Rattle.hazards.proofs.rates.Pairs.wait.Given as goal

abbrev pub invariant-loop-i : goal.invariant-loop-i
invariant-loop-i l =
    wait_from l.i (pieces_by (pair_at (lent_pairs l.self)) l.i (l.used - l.i)) l.trailing l.start l.cur_t l.remaining_w
    ≡ piecewise_wait (used_pairs (lent_pairs l.self)) l.trailing l.start l.w
