-- `roots::whole_root` meets its contract: what is_nearest passes, or half of the long root, rounded.
use Prim.Native.Nat.{◌+◌, ◌*◌}
use native.Mathlib.Omega.{arith}
use Rattle.hazards.proofs.WholeRoots.{made_even, even_nearest, rounded}
use Rattle.hazards.proofs.roots.whole_root.Goals as goal

pub returns : goal.returns
returns c =
    let r = c.long_root in
    let e = made_even c.requires in
    even_nearest c.requires (rounded (c.args.digits * (1 + c.args.odd)) r.result (omega arith) r.ensures.0 r.ensures.1)
