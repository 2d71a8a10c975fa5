-- Operations on values that are no NaN and have a clear sign, infinity among them: the result is one too.
use mathlib.Core.Path.{◌≡◌, ◌∙◌, subst}
use mathlib.Core.Bool.{Bool, true, false, cond, true≢false}
use Prim.Native.Nat.{ℕ, zero, suc, ◌+◌, ◌-◌, ◌*◌, ◌<◌, zero-le}
use native.Mathlib.Nat.{lt_of_le_of_lt, lt_irrefl, zero-mul, mul-one}
use native.Mathlib.Omega.{arith}
use lib.IntN.{ℤ}
use lib.Dec.{T, eqb, ltb→lt, eqb→eq}
use lib.Ieee.{Float, nan, inf, fin, binary64, up, down, round, add, sub, div, lt, le}
use Rattle.hazards.specs.Floats.{z}
use Rattle.hazards.proofs.Bounds.{Upto}
use Rattle.hazards.proofs.Signs.{Signed}
use Rattle.hazards.proofs.Upto.{for_fin, for_fins, own_upto}
use Rattle.hazards.proofs.UptoOperations.{round_signed, sub-up-is}

-- ---- x / y, where y is above 0
above_zero : (n d c : ℕ) → 0 * 1 * c < n * d * 1 → 0 < n
above_zero zero d c h =
    absurd (lt_irrefl 0 (lt_of_le_of_lt zero-le (subst (λ (k : ℕ). 0 * 1 * c < k) (mul-one (0 * d) ∙ zero-mul d) h)))
above_zero (suc n) d c h = omega arith

quotient_signed : (m n A B : ℕ) → 0 < n → Signed false (cond (eqb n 0) (cond (eqb m 0) nan (inf false)) (round binary64 false A B))
quotient_signed m n A B h = go (eqb n 0) (eqb→eq n 0)
  where
    go : (t : Bool) → (T t → n ≡ 0) → Signed false (cond t (cond (eqb m 0) nan (inf false)) (round binary64 false A B))
    go true e = absurd (lt_irrefl 0 (subst (λ (k : ℕ). 0 < k) (e tt) h))
    go false e = round_signed binary64 false A B

pub div-signed : {a b : ℕ} {x y : Float} → Upto a x → Upto b y → T (lt z y) → Signed false (div binary64 x y)
div-signed u v = for_fins (λ (x y : Float). T (lt z y) → Signed false (div binary64 x y)) go u v
  where
    go : (m : ℕ) (e : ℤ) (n : ℕ) (d : ℤ) → T (lt z (fin false n d)) → Signed false (div binary64 (fin false m e) (fin false n d))
    go m e n d p =
        unfold div in
        quotient_signed m n (m * up e * down d) (n * up d * down e)
        (above_zero n (up d) (down d) (ltb→lt (0 * 1 * down d) (n * up d * 1) (unfold lt in p)))

-- ---- x + y
pub add-signed : {a : ℕ} {x : Float} (y : Float) → Upto a x → Signed false y → Signed false (add binary64 x y)
add-signed y u s = for_fin (λ (x : Float). Signed false (add binary64 x y)) (go y s) u
  where
    go : (y : Float) → Signed false y → (m : ℕ) (e : ℤ) → Signed false (add binary64 (fin false m e) y)
    go nan s m e = absurd s
    go (inf t) s m e = unfold add in s
    go (fin true n d) s m e = absurd (true≢false s)
    go (fin false n d) s m e = unfold add in round_signed binary64 false (m * up e * down d + n * up d * down e) (down e * down d)

-- ---- x - y, where y ≤ x
pub sub-signed : {b : ℕ} {y : Float} (x : Float) → Signed false x → Upto b y → T (le y x) → Signed false (sub binary64 x y)
sub-signed x s v o = for_fin (λ (y : Float). T (le y x) → Signed false (sub binary64 x y)) (go x s) v o
  where
    go : (x : Float) → Signed false x → (n : ℕ) (d : ℤ) → T (le (fin false n d) x) → Signed false (sub binary64 x (fin false n d))
    go nan s n d o = absurd s
    go (inf t) s n d o = unfold sub in s
    go (fin true m e) s n d o = absurd (true≢false s)
    go (fin false m e) s n d o =
        rw (sub-up-is (own_upto m e) (own_upto n d) o)
        (round_signed binary64 false (m * up e * down d - n * up d * down e) (down e * down d))
