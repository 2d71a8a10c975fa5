-- Floats above 0: infinite, or finite with a clear sign, which are not at most 0; and those at most a finite one.
use mathlib.Core.Path.{◌≡◌, refl, sym, ap, ◌∙◌, subst}
use mathlib.Core.Logic.{◌⊎◌, inl, inr}
use mathlib.Core.Bool.{true, false, ◌&&◌, ◌||◌}
use Prim.Native.Nat.{ℕ, ◌*◌, ◌<◌}
use native.Mathlib.Nat.{zero-mul, mul-pos}
use native.Mathlib.Omega.{arith}
use borrow.Author.Tests.{le-ltb, ne_eqb}
use lib.IntN.{ℤ}
use lib.Dec.{T, ltb, eqb, ltb→lt, lt→ltb}
use lib.Ieee.{Float, nan, inf, fin, up, down, lt, le}
use lib.Ieee.Fits.{up_pos}
use lib.Ieee.Positive.{positive, first_pos}
use Rattle.hazards.specs.Floats.{z}
use Rattle.hazards.proofs.Signs.{Signed}

-- the test x > 0.0 of a number with its sign clear
above_is : (m : ℕ) (e : ℤ) → lt z (fin false m e) ≡ ltb 0 (m * up e * 1)
unfolding lt
above_is m e = ap (λ (n : ℕ). ltb n (m * up e * 1)) (zero-mul (down e))

pub infinite_or_positive : (x : Float) → T (lt z x) → (x ≡ inf false) ⊎ T (positive x)
unfolding lt
infinite_or_positive nan h = absurd h
infinite_or_positive (inf true) h = absurd h
infinite_or_positive (inf false) h = inl refl
infinite_or_positive (fin true m e) h = absurd h
infinite_or_positive (fin false m e) h =
    inr (lt→ltb 0 m (first_pos m (up e) (first_pos (m * up e) 1 (ltb→lt 0 (m * up e * 1) (subst T (above_is m e) h)))))

pub above_positive : (x y : Float) → T (lt z x) → T (le x y) → T (positive y) → T (positive x)
unfolding lt le
above_positive nan y h k p = absurd h
above_positive (inf true) y h k p = absurd h
above_positive (inf false) nan h k p = absurd p
above_positive (inf false) (inf t) h k p = absurd p
above_positive (inf false) (fin t n d) h k p = absurd k
above_positive (fin true m e) y h k p = absurd h
above_positive (fin false m e) y h k p =
    lt→ltb 0 m (first_pos m (up e) (first_pos (m * up e) 1 (ltb→lt 0 (m * up e * 1) (subst T (above_is m e) h))))

pub positive_above : (x : Float) → T (positive x) → T (lt z x)
positive_above nan p = absurd p
positive_above (inf s) p = absurd p
positive_above (fin true m e) p = absurd p
positive_above (fin false m e) p =
    subst T (sym (above_is m e)) (lt→ltb 0 (m * up e * 1) (let q = mul-pos (ltb→lt 0 m p) (up_pos e) in omega arith))

-- below the infinity
pub positive_finite : (x : Float) → T (positive x) → lt x (inf false) ≡ true
unfolding lt
positive_finite nan p = absurd p
positive_finite (inf s) p = absurd p
positive_finite (fin s m e) p = refl

pub infinity_not_below : lt (inf false) (inf false) ≡ false
unfolding lt
infinity_not_below = refl

pub finite_positive : (x : Float) → T (lt z x) → T (lt x (inf false)) → T (positive x)
finite_positive x h k = go (infinite_or_positive x h)
  where
    go : (x ≡ inf false) ⊎ T (positive x) → T (positive x)
    go (inl e) = absurd (subst T (ap (λ (y : Float). lt y (inf false)) e ∙ infinity_not_below) k)
    go (inr p) = p

pub positive_signed : (x : Float) → T (positive x) → Signed false x
positive_signed nan p = absurd p
positive_signed (inf s) p = absurd p
positive_signed (fin true m e) p = absurd p
positive_signed (fin false m e) p = refl

-- the test x <= 0.0
none_or : (a b : ℕ) → b ≡ 0 → 0 < a → (ltb a b || (eqb a b && true)) ≡ false
none_or a b e h = rw (le-ltb a b (omega arith), ne_eqb a b (omega arith))

pub positive-not-le-zero : (x : Float) → T (positive x) → le x z ≡ false
unfolding le
positive-not-le-zero nan p = absurd p
positive-not-le-zero (inf s) p = absurd p
positive-not-le-zero (fin true m e) p = absurd p
positive-not-le-zero (fin false m e) p =
    none_or (m * up e * 1) (0 * 1 * down e) (zero-mul (down e)) (let q = mul-pos (ltb→lt 0 m p) (up_pos e) in omega arith)
