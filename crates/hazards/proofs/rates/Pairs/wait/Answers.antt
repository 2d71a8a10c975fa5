-- `rates::Pairs::wait` meets its contract: at each turn the wait over the pieces from i on, for what is left of w, is the wait
-- from the start.
use mathlib.Core.Path.{◌≡◌, sym, ◌∙◌}
use native.Mathlib.Omega.{arith}
use Rattle.hazards.specs.Rates.{lent_pairs, pair_at}
use Rattle.hazards.proofs.Pieces.{used_after, pieces_next, pieces_end}
use Rattle.hazards.proofs.Turns.{wait_here, wait_later}
use Rattle.hazards.proofs.rates.Pairs.wait.Goals as goal

pub loop-i-init : goal.loop-i-init
loop-i-init c =
    let a = c.args in
    let p = lent_pairs a.self in
    rw (used_after p c.used-used.ensures a.start c.interval_after-first.ensures.first, c.interval_after-first.ensures.first)

pub returns-then-within_capacity : goal.returns-then-within_capacity
returns-then-within_capacity c =
    let a = c.args in
    let p = lent_pairs a.self in
    let next = pieces_next (pair_at p) c.used-used.result c.loop-i.i (omega arith) in
    c.ends_in.ensures
    ∙ sym (wait_here c.loop-i.i a.trailing a.start c.loop-i.cur_t c.loop-i.remaining_w next
    c.not_below_zero-rate.ensures
    (sym c.within_capacity.ensures ∙ c.if-within_capacity.true))
    ∙ c.loop-i.invariant

pub loop-i-preserved : goal.loop-i-preserved
loop-i-preserved c =
    let a = c.args in
    let p = lent_pairs a.self in
    let next = pieces_next (pair_at p) c.used-used.result c.loop-i.i (omega arith) in
    sym (wait_later c.loop-i.i a.trailing a.start c.loop-i.cur_t c.loop-i.remaining_w next
    c.not_below_zero-rate.ensures
    (sym c.within_capacity.ensures ∙ c.if-within_capacity.false))
    ∙ c.loop-i.invariant

pub returns : goal.returns
returns c =
    let a = c.args in
    let p = lent_pairs a.self in
    let e : c.loop-i.i ≡ c.used-used.result =
    omega (arith, c.loop-i.auto.i-end, c.loop-i-test.false, c.interval_after-first.ensures.within, c.used-used.ensures) in
    c.trailing_wait.ensures
    ∙ rw (pieces_end (pair_at p) c.used-used.result c.loop-i.i (omega arith), e) at c.loop-i.invariant
