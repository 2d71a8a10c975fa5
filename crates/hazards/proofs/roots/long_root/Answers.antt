-- `roots::long_root` meets its contract: each turn gives the root one binary digit more.
use native.Mathlib.Omega.{arith}
use Rattle.hazards.proofs.WholeRoots.{after_one, after_zero}
use Rattle.hazards.proofs.roots.long_root.Goals as goal
use Rattle.hazards.proofs.roots.long_root.Goals.{then-left-root, else-left-root}

pub loop-preserved : goal.loop-preserved
loop-preserved c =
    let l = c.loop.invariant in
    elim c.if-left-root.branch [
      | then-left-root w ↦ rw (w.root-is, w.left-is) (after_one l (omega arith) w.if-left-root.true)
      | else-left-root w ↦ rw (w.root-is, w.left-is) (after_zero l (omega arith) w.if-left-root.false)
    ]
