-- `rates::Pairs::interval_after` meets its contract: at each turn i pieces and then those before the first after t, among the pieces from i on,
-- are those before the first after t.
use mathlib.Core.Path.{◌∙◌, ap}
use native.Mathlib.Nat.{zero-add}
use native.Mathlib.Omega.{arith}
use borrow.Author.Tests.{not-true, not-false}
use Rattle.hazards.specs.Rates.{lent_pairs, pair_at, first_after}
use Rattle.hazards.proofs.Pieces.{used_start, pieces_next, pieces_end}
use Rattle.hazards.proofs.Turns.{after_here, after_past, after_none}
use Rattle.hazards.proofs.rates.Pairs.interval_after.Goals as goal

pub loop-i-init : goal.loop-i-init
loop-i-init c =
    let a = c.args in
    let s = used_start (lent_pairs a.self) c.used-used.ensures in
    zero-add _ ∙ ap (first_after a.t) s

pub returns-then-not-t-self : goal.returns-then-not-t-self
returns-then-not-t-self c =
    let a = c.args in
    let p = lent_pairs a.self in
    let next = pieces_next (pair_at p) c.used-used.result c.loop-i.i (omega arith) in
    omega (arith, c.loop-i.invariant, after_here a.t next (not-true _ c.if-not-t-self.true-raw))

pub loop-i-preserved : goal.loop-i-preserved
loop-i-preserved c =
    let a = c.args in
    let p = lent_pairs a.self in
    let next = pieces_next (pair_at p) c.used-used.result c.loop-i.i (omega arith) in
    omega (arith, c.loop-i.invariant, after_past a.t next (not-false _ c.if-not-t-self.false-raw))

pub returns : goal.returns
returns c =
    let a = c.args in
    let p = lent_pairs a.self in
    let end = pieces_end (pair_at p) c.used-used.result c.loop-i.i (omega arith) in
    omega (arith, c.loop-i.invariant, after_none a.t end)
