-- `rates::Pairs::cumulative` meets its contract: at each turn the cumulative hazard over the pieces from i on, added to cum, is
-- that over all used pairs.
use mathlib.Core.Path.{sym, ◌∙◌}
use native.Mathlib.Omega.{arith}
use lib.Ieee.{of_bits}
use Rattle.hazards.specs.Rates.{lent_pairs, pair_at}
use Rattle.hazards.proofs.Pieces.{used_start, pieces_next, pieces_end}
use Rattle.hazards.proofs.Turns.{cumulative_here, cumulative_later, cumulative_trailing}
use Rattle.hazards.proofs.rates.Pairs.cumulative.Goals as goal

pub loop-i-init : goal.loop-i-init
unfolding of_bits
loop-i-init c =
    let a = c.args in
    rw (used_start (lent_pairs a.self) c.used-used.ensures)

pub returns-then-t-end_t : goal.returns-then-t-end_t
returns-then-t-end_t c =
    let a = c.args in
    let p = lent_pairs a.self in
    let next = pieces_next (pair_at p) c.used-used.result c.loop-i.i (omega arith) in
    sym (cumulative_here a.trailing a.t c.loop-i.cum c.loop-i.cur_t next c.not_below_zero-rate.ensures c.if-t-end_t.true)
    ∙ c.loop-i.invariant

pub loop-i-preserved : goal.loop-i-preserved
loop-i-preserved c =
    let a = c.args in
    let p = lent_pairs a.self in
    let next = pieces_next (pair_at p) c.used-used.result c.loop-i.i (omega arith) in
    sym (cumulative_later a.trailing a.t c.loop-i.cum c.loop-i.cur_t next c.not_below_zero-rate.ensures c.if-t-end_t.false)
    ∙ c.loop-i.invariant

pub returns : goal.returns
returns c =
    let a = c.args in
    let p = lent_pairs a.self in
    let end = pieces_end (pair_at p) c.used-used.result c.loop-i.i (omega arith) in
    sym (cumulative_trailing a.trailing a.t c.loop-i.cum c.loop-i.cur_t end c.not_below_zero.ensures) ∙ c.loop-i.invariant
