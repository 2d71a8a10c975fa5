-- `ties::explicitly_preferred` meets its contract.
use mathlib.Core.Path.{◌≡◌}
use mathlib.Core.Bool.{true, false, cond}
use Prim.Native.Nat.{ℕ}
use native.Mathlib.Omega.{arith}
use lib.Dec.{ltb}
use Rattle.std.specs.Ordering.{nat_cmp, ordering_then, is_lt}
use Rattle.std.proofs.lemmas.Bool.Decides.{nat_tests}
use Rattle.hazards.specs.Ties.{preferred}
use Rattle.hazards.proofs.ties.explicitly_preferred.Goals as goal

first_then : (pa pb ia ib : ℕ) → is_lt (ordering_then (nat_cmp pb pa) (nat_cmp ia ib)) ≡ cond (ltb pb pa) true (cond (ltb pa pb) false (ltb ia ib))
first_then pa pb ia ib = grind (arith, nat_tests)

pub returns : goal.returns
unfolding preferred
returns c =
    let a = c.args.a in
    let b = c.args.b in
    rw (c.is_lt.ensures, c.then.ensures, c.cmp.ensures, c.cmp-2.ensures) (first_then a.priority b.priority a.cause_id b.cause_id)
