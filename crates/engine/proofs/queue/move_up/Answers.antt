-- `queue::move_up` meets its contract: at each turn those of the first `i` requests that stay stand in the first places.
use mathlib.Core.Path.{◌≡◌, refl}
use Prim.Native.Nat.{◌<◌, min}
use native.Mathlib.Omega.{arith}
use lib.ListN.{length, length-set}
use Rattle.engine.proofs.RequestRows.{count_at}
use Rattle.engine.proofs.QueueRowLaws.{moving_none, moving_more, moving_left, moving-all}
use Rattle.engine.proofs.queue.move_up.Goals as goal
use Rattle.engine.proofs.queue.move_up.Goals.{then-row-index, else-row-index}

pub loop-i-init : goal.loop-i-init
loop-i-init c = moving_none c.args.words.now c.args.index

pub bounds-words-kept : goal.bounds-words-kept
bounds-words-kept c = omega (arith, c.used_places-used.ensures)

pub loop-i-preserved : goal.loop-i-preserved
loop-i-preserved c =
    let w₀ = c.args.words.now in
    let w = c.loop-i.words in
    let i = c.loop-i.i in
    let kept = c.loop-i.kept in
    let index = c.args.index in
    let h : i < min (count_at w₀ 0) 16 = omega (arith, c.used_places-used.ensures) in
    elim c.if-row-index.branch [
      | then-row-index x ↦
          let sized = simp length-set at (rw x.words-is at c.if-row-index.array_long) in
          rw (x.words-is, x.kept-is) (moving_more w₀ w index i kept c.loop-i.invariant h sized x.if-row-index.true)
      | else-row-index x ↦ rw (x.words-is, x.kept-is) (moving_left w₀ w index i kept c.loop-i.invariant h x.if-row-index.false)
    ]

pub returns : goal.returns
returns c =
    let a = c.args in
    moving-all a.words.now c.loop-i.words a.index c.loop-i.i c.loop-i.kept c.loop-i.invariant
    (omega (arith, c.used_places-used.ensures))
