-- Values that are clamped at 0 or tested against it: `not_below_zero x`, and what is not at most 0.
use mathlib.Core.Path.{◌≡◌, refl, sym}
use mathlib.Core.Logic.{inl, inr}
use mathlib.Core.Bool.{Bool, true, false, not, ◌&&◌, ◌||◌, true≢false}
use Prim.Native.Nat.{ℕ, ◌+◌, ◌-◌, ◌*◌}
use native.Mathlib.Nat.{eq-zero-or-pos, zero-mul}
use native.Mathlib.Omega.{arith}
use lib.Dec.{T, T_not, ltb, eqb, lt→ltb}
use lib.Ieee.{Float, nan, inf, fin, binary64, up, down, sub, lt, le}
use lib.Ieee.Positive.{num, den}
use Rattle.hazards.specs.Floats.{z, not_below_zero}
use Rattle.hazards.proofs.Bounds.{Upto}
use Rattle.hazards.proofs.Signs.{Signed}
use Rattle.hazards.proofs.Upto.{zero_upto, either_upto, lands}
use Rattle.hazards.proofs.UptoOrder.{or_l, upto_le}
use Rattle.hazards.proofs.UptoOperations.{round_signed, rounded_difference, sub_is, less_upto}

-- ---- x.max(0.0)
negative_clamped : (b : ℕ) (x : Float) → Signed true x → Upto b (not_below_zero x)
unfolding not_below_zero
negative_clamped b nan s = absurd s
negative_clamped b (inf true) s = unfold lt in zero_upto b
negative_clamped b (inf false) s = absurd (true≢false (sym s))
negative_clamped b (fin true m e) s = unfold lt in zero_upto b
negative_clamped b (fin false m e) s = absurd (true≢false (sym s))

pub clamped_upto : {b : ℕ} {x : Float} → Upto b x → Upto b (not_below_zero x)
unfolding not_below_zero
clamped_upto {b} {x} u = either_upto (lt z x) (λ (t : T (lt z x)). u) (λ (n : T (not (lt z x))). zero_upto b)

-- of any x that is at most y, negative ones among them
pub clamped_below : {b : ℕ} {y : Float} (x : Float) → T (le x y) → Upto b y → Upto b (not_below_zero x)
clamped_below {b} nan h u = unfold not_below_zero lt in zero_upto b
clamped_below {b} (inf true) h u = negative_clamped b (inf true) refl
clamped_below (inf false) h u = clamped_upto (upto_le (inf false) refl h u)
clamped_below {b} (fin true m e) h u = negative_clamped b (fin true m e) refl
clamped_below (fin false m e) h u = clamped_upto (upto_le (fin false m e) refl h u)

-- (x - y).max(0.0), whichever of the two is larger
pub clamped_difference_upto : {a b : ℕ} {x y : Float} (c : ℕ) → Upto a x → Upto b y → T (lands a c)
    → Upto c (not_below_zero (sub binary64 x y))
clamped_difference_upto {a} {b} {x} {y} c u v l = rw (sub_is u v) (go (ltb (num x * den y) (num y * den x)))
  where
    go : (t : Bool) → Upto c (not_below_zero (rounded_difference t (num x * den y) (num y * den x) (den x * den y)))
    go true = negative_clamped c _ (round_signed binary64 true (num y * den x - num x * den y) (den x * den y))
    go false = clamped_upto (less_upto c u v l)

-- ---- what is not at most 0
negative-le-zero : (x : Float) → Signed true x → T (le x z)
negative-le-zero nan s = absurd s
negative-le-zero (inf true) s = unfold le in tt
negative-le-zero (inf false) s = absurd (true≢false (sym s))
negative-le-zero (fin false m e) s = absurd (true≢false (sym s))
negative-le-zero (fin true m e) s = unfold le in test (m * up e * 1) (0 * 1 * down e) (zero-mul (down e))
  where
    test : (A B : ℕ) → B ≡ 0 → T (ltb 0 (A + B) || (eqb A B && (false || eqb A 0)))
    test A B e = elim (eq-zero-or-pos A) [ inl p ↦ rw (p, e) tt | inr p ↦ or_l (ltb 0 (A + B)) _ (lt→ltb 0 (A + B) (omega arith)) ]

-- and at most some w
pub positive_upto : {b : ℕ} {w : Float} (x : Float) → T (not (le x z)) → T (le x w) → Upto b w → Upto b x
positive_upto nan n h u = absurd (unfold le in h)
positive_upto (inf true) n h u = absurd (unfold le in n)
positive_upto (inf false) n h u = upto_le (inf false) refl h u
positive_upto (fin false m e) n h u = upto_le (fin false m e) refl h u
positive_upto (fin true m e) n h u = absurd (T_not (le (fin true m e) z) n (negative-le-zero (fin true m e) refl))
