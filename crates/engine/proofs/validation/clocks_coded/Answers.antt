-- `validation::clocks_coded` meets its contract: at each turn the clocks below k are coded.
use mathlib.Core.Path.{◌≡◌, sym, ◌∙◌}
use Prim.Native.Nat.{◌*◌}
use borrow.Author.Tests.{not-true, not-false}
use Rattle.clocks.proofs.EveryBelow.{every_none, every_more, every_fails}
use Rattle.engine.proofs.ValidStates.{cut, part_sized}
use native.Mathlib.Omega.{arith}
use Rattle.engine.proofs.validation.clocks_coded.Invariants.{coded_at}
use Rattle.engine.proofs.validation.clocks_coded.Goals as goal

pub loop-k-init : goal.loop-k-init
loop-k-init c = every_none _

pub returns-then-not-clock_coded : goal.returns-then-not-clock_coded
returns-then-not-clock_coded c =
    let k = c.loop-k.k in
    let a = c.args in
    let rows = rw c.unwrap-rows.ensures at c.as_array.ensures.cases in
    let numbers = rw c.unwrap-numbers.ensures at c.as_array-in-loop-k.ensures.cases in
    let fails = rw (rows.same, numbers.same, cut (10 * k) 10, cut (25 * k) 25) at (sym c.clock_coded.ensures ∙ not-true _ c.if-not-clock_coded.true-raw) in
    sym (every_fails (coded_at a.words.now a.floats.now) 16 k (omega arith) fails)

pub loop-k-preserved : goal.loop-k-preserved
loop-k-preserved c =
    let k = c.loop-k.k in
    let a = c.args in
    let rows = rw c.unwrap-rows.ensures at c.as_array.ensures.cases in
    let numbers = rw c.unwrap-numbers.ensures at c.as_array-in-loop-k.ensures.cases in
    let passes = rw (rows.same, numbers.same, cut (10 * k) 10, cut (25 * k) 25) at (sym c.clock_coded.ensures ∙ not-false _ c.if-not-clock_coded.false-raw) in
    every_more (coded_at a.words.now a.floats.now) k c.loop-k.invariant passes

pub returns : goal.returns
returns c =
    let sixteen : c.loop-k.k ≡ 16 = omega arith in
    sym (rw sixteen at c.loop-k.invariant)
