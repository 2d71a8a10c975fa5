-- Finite floats above 0 and their bit patterns: one pattern to a value, in the same order.
use mathlib.Core.Path.{◌≡◌, refl, sym, ap, ◌∙◌, subst}
use mathlib.Core.Bool.{Bool, true, false, cond}
use Prim.Native.Nat.{ℕ, zero, suc, ◌+◌, ◌/◌, ◌%◌, ◌^◌, ◌≤◌, ◌<◌}
use native.Mathlib.Nat.{le_antisymm, lt_of_not-le, lt_of_le_of_lt, mul-le-mul_right, le_of_mul-le-mul_right}
use native.Mathlib.Omega.{arith}
use borrow.Author.Tests.{leb-false}
use lib.Dec.{T, leb, eqb}
use lib.Pow.{pow_pos}
use lib.Ieee.{Float, nan, inf, binary64, odd, of_bits, of_fields, to_bits, fits, le}
use lib.Ieee.Bits.{of_bits-to_bits, to_bits-lt}
use lib.Ieee.Exact.{HasValue}
use lib.Ieee.Order.{le_of_values}
use lib.Ieee.Positive.{positive, positive_of_value, values_of_le}
use Rattle.hazards.specs.Roots.{fields_multiple, multiple}
use Rattle.hazards.specs.RootsInternals.{infinity_pattern}
use Rattle.hazards.proofs.PatternValues.{multiple_value, multiple_mono, multiple-lt, multiple_back}

-- ---- patterns of no positive value

odd_negative : (d q k l : ℕ) → T (positive (odd d true q k l)) → ⊥
unfolding odd
odd_negative d zero k l t = t
odd_negative d (suc q) k l t = t

either : (a b s : Bool) (x : Float) → (T (positive x) → ⊥) → T (positive (cond a (cond b (inf s) nan) x)) → ⊥
either true true s x h t = t
either true false s x h t = t
either false b s x h t = h t

negative : (e t : ℕ) → T (positive (of_fields binary64 true e t)) → ⊥
unfolding of_fields
negative zero t p = odd_negative 53 t 0 1074 p
negative (suc k) t p =
    either (eqb (suc k) 2047) (eqb t 0) true (odd 53 true (2 ^ 52 + t) k 1074) (odd_negative 53 (2 ^ 52 + t) k 1074) p

not_finite : (t : ℕ) → T (positive (of_fields binary64 false 2047 t)) → ⊥
unfolding of_fields
not_finite t p = either true (eqb t 0) false nan (λ q. q) p

too_large : (b : ℕ) → infinity_pattern ≤ b → b < 2 ^ 64 → T (positive (of_bits binary64 b)) → ⊥
unfolding of_bits
too_large b h k p = go (leb (2 ^ 63) b) refl p
  where
    go : (s : Bool) → leb (2 ^ 63) b ≡ s → T (positive (of_fields binary64 s (b % 2 ^ 63 / 2 ^ 52) (b % 2 ^ 52))) → ⊥
    go true e q = negative (b % 2 ^ 63 / 2 ^ 52) (b % 2 ^ 52) q
    go false e q =
        let l : b < 2 ^ 63 = leb-false (2 ^ 63) b e in
        let f : b % 2 ^ 63 / 2 ^ 52 ≡ 2047 = omega arith in
        not_finite (b % 2 ^ 52) (rw f at q)

nothing : T (positive (of_bits binary64 0)) → ⊥
unfolding of_bits
nothing p = p

-- ---- the pattern of a positive value, and back

module _ (x : Float) (f : T (fits binary64 x)) (p : T (positive x)) where
  back : T (positive (of_bits binary64 (to_bits binary64 x)))
  back = subst (λ (y : Float). T (positive y)) (sym (of_bits-to_bits binary64 x f)) p

  pub pattern_finite : to_bits binary64 x < infinity_pattern
  pattern_finite =
      lt_of_not-le (λ (g : infinity_pattern ≤ to_bits binary64 x). too_large (to_bits binary64 x) g (to_bits-lt binary64 x f) back)

  pub pattern_above_zero : 0 < to_bits binary64 x
  pattern_above_zero = go (to_bits binary64 x) back
    where
      go : (b : ℕ) → T (positive (of_bits binary64 b)) → 0 < b
      go zero q = absurd (nothing q)
      go (suc b) q = omega arith

  pub own_multiple : HasValue x false (multiple (to_bits binary64 x)) (2 ^ 1074)
  own_multiple =
      subst (λ (y : Float). HasValue y false (multiple (to_bits binary64 x)) (2 ^ 1074)) (of_bits-to_bits binary64 x f)
      (multiple_value (to_bits binary64 x) pattern_finite)

multiple_zero : multiple 0 ≡ 0
unfolding fields_multiple multiple
multiple_zero = refl

pub pattern_positive : (b : ℕ) → 0 < b → b < infinity_pattern → T (positive (of_bits binary64 b))
pattern_positive b l h =
    positive_of_value (of_bits binary64 b) (multiple b) (2 ^ 1074) (multiple_value b h)
    (subst (λ (n : ℕ). n < multiple b) multiple_zero (multiple-lt 0 b l))

-- ---- the order

pub pattern-le : (a b : ℕ) → a ≤ b → b < infinity_pattern → T (le (of_bits binary64 a) (of_bits binary64 b))
pattern-le a b l h =
    le_of_values (of_bits binary64 a) (of_bits binary64 b) (multiple a) (2 ^ 1074) (multiple b) (2 ^ 1074) (pow_pos 1074) (pow_pos 1074)
    (multiple_value a (lt_of_le_of_lt l h)) (multiple_value b h) (mul-le-mul_right (2 ^ 1074) (multiple_mono a b l))

module _ (x y : Float) (f : T (fits binary64 x)) (p : T (positive x)) (g : T (fits binary64 y)) (q : T (positive y)) where
  pub le-patterns : T (le x y) → to_bits binary64 x ≤ to_bits binary64 y
  le-patterns h =
      let a = multiple (to_bits binary64 x) in
      let b = multiple (to_bits binary64 y) in
      let l = values_of_le x y a (2 ^ 1074) b (2 ^ 1074) p q (own_multiple x f p) (own_multiple y g q) h in
      multiple_back (to_bits binary64 x) (to_bits binary64 y) (le_of_mul-le-mul_right l (pow_pos 1074))

pub le-both-ways : (x y : Float) → T (fits binary64 x) → T (positive x) → T (fits binary64 y) → T (positive y) → T (le x y) → T (le y x)
    → x ≡ y
le-both-ways x y f p g q h k =
    sym (of_bits-to_bits binary64 x f)
    ∙ ap (of_bits binary64) (le_antisymm (le-patterns x y f p g q h) (le-patterns y x g q f p k))
    ∙ of_bits-to_bits binary64 y g
