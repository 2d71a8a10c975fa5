-- A quotient of finite floats above 0 never grows as its divisor grows.
use mathlib.Core.Path.{◌≡◌, sym, subst}
use mathlib.Core.Bool.{true, false}
use Prim.Native.Nat.{ℕ, ◌*◌, ◌≤◌, ◌<◌}
use native.Mathlib.Nat.{mul-pos, mul-le-mul_left}
use native.Mathlib.Omega.{arith}
use borrow.Author.Tests.{ne_eqb}
use lib.Dec.{T, eqb, ltb→lt}
use lib.Ieee.{Float, nan, inf, fin, binary64, round, div, le}
use lib.Ieee.Order.{round_mono}
use lib.Ieee.Positive.{num, den, den_pos, positive, own_value, value_pos, le→cross}
use Rattle.hazards.proofs.Signs.{Signed}
use Rattle.hazards.proofs.UptoOperations.{round_signed}

not_zero : (n : ℕ) → 0 < n → eqb n 0 ≡ false
not_zero n h = ne_eqb n 0 (omega arith)

-- one rounding of the exact quotient
quotient_is : (x y : Float) → T (positive x) → T (positive y) → div binary64 x y ≡ round binary64 false (num x * den y) (num y * den x)
unfolding div
quotient_is nan y p q = absurd p
quotient_is (inf s) y p q = absurd p
quotient_is (fin true m e) y p q = absurd p
quotient_is (fin false m e) nan p q = absurd q
quotient_is (fin false m e) (inf t) p q = absurd q
quotient_is (fin false m e) (fin true n d) p q = absurd q
quotient_is (fin false m e) (fin false n d) p q = rw (not_zero n (ltb→lt 0 n q))

pub quotient_signed : (x y : Float) → T (positive x) → T (positive y) → Signed false (div binary64 x y)
quotient_signed x y p q =
    subst (Signed false) (sym (quotient_is x y p q)) (round_signed binary64 false (num x * den y) (num y * den x))

num_pos : (x : Float) → T (positive x) → 0 < num x
num_pos x p = value_pos x (num x) (den x) p (den_pos x) (own_value x p)

cross : (a b n d m e : ℕ) → n * e ≤ m * d → a * e * (n * b) ≤ a * d * (m * b)
cross a b n d m e h =
    let s : a * b * (n * e) ≤ a * b * (m * d) = mul-le-mul_left (a * b) h in
    omega arith

pub quotient_falls : (w x y : Float) → T (positive w) → T (positive x) → T (positive y) → T (le x y)
    → T (le (div binary64 w y) (div binary64 w x))
quotient_falls w x y p q r h =
    rw (quotient_is w x p q, quotient_is w y p r)
    (round_mono binary64 (num w * den y) (num y * den w) (num w * den x) (num x * den w) (mul-pos (num_pos y r) (den_pos w))
    (mul-pos (num_pos x q) (den_pos w)) (cross (num w) (den w) (num x) (den x) (num y) (den y) (le→cross x y q r h)))
