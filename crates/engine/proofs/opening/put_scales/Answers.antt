-- `opening::put_scales` meets its contract: at each turn the clocks before k have their times.
use Prim.Native.Nat.{◌+◌, ◌*◌}
use native.Mathlib.Omega.{arith}
use lib.Ieee.{of_bits}
use Rattle.engine.proofs.OpenedRows.{scales_none, scales_next}
use Rattle.engine.proofs.opening.put_scales.Goals as goal

pub loop-k-init : goal.loop-k-init
loop-k-init c = scales_none c.args.floats.now c.requires

pub loop-k-preserved : goal.loop-k-preserved
unfolding of_bits
loop-k-preserved c =
    let l = c.loop-k in
    scales_next l.k (25 * l.k + 0) l.floats (omega arith) (omega arith) l.invariant
