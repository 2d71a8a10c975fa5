-- `roots::is_nearest` meets its contract: what it compares is n * 2^52 and p * p.
use Prim.Native.Nat.{◌/◌, ◌%◌, ◌^◌}
use native.Mathlib.Omega.{arith}
use borrow.Author.Tests.{ltb-true, leb-true}
use Rattle.hazards.proofs.Cases.{both_true}
use Rattle.hazards.proofs.WholeRoots.{test_nearest}
use Rattle.hazards.proofs.roots.is_nearest.Goals as goal

pub returns : goal.returns
returns c e =
    let a = c.args in
    let t = both_true _ _ e in
    test_nearest a.n (a.p / 2 ^ 26) (a.p % 2 ^ 26) a.p (omega arith) (omega arith) (omega arith) (ltb-true _ _ t.0)
    (leb-true _ _ t.1)
