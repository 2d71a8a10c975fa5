-- The f64 nearest to a root: the pattern made of a nearest whole number is the nearest, only one pattern is, and that is `root_pattern`.
use mathlib.Core.Path.{◌≡◌, refl, sym, ap, ◌∙◌, subst}
use Prim.Native.Nat.{ℕ, zero, suc, ◌+◌, ◌-◌, ◌*◌, ◌/◌, ◌%◌, ◌^◌, ◌≤◌, ◌<◌}
use native.Mathlib.Nat.{le_trans, le_of_eq, le_of_lt, le_antisymm, lt_of_lt_of_le, lt_of_le_of_lt, lt_of_not-le, lt_irrefl}
use native.Mathlib.Nat.{add-le-add, mul-le-mul_left, mul-le-mul_right, mul-lt-mul_of_pos_right, mul-pos, mul_assoc, pow-succ'}
use native.Mathlib.Omega.{arith}
use borrow.Author.Tests.{ltb-true, ltb-false, lt-ltb, le-ltb}
use lib.Dec.{ltb, lit<, lit≤}
use lib.Pow.{pow_pos, pow-add}
use Rattle.hazards.specs.FirstPlace.{FirstPlace}
use Rattle.hazards.specs.Roots.{fields_multiple, multiple, halfway_square, quarters, NearestPattern, square_above, root_pattern}
use Rattle.hazards.specs.RootsInternals.{infinity_pattern, AllDigits, NearestWhole}
use Rattle.hazards.proofs.Cases.{by_test}
use Rattle.hazards.proofs.PatternValues.{multiple_mono, multiple_made, next_made, multiple_subnormal, multiple_normal}
use Rattle.hazards.proofs.Bisection.{GoesOn, first-of, at_step, one_first}
use Rattle.hazards.proofs.WholeRoots.{square_le, moved, halfway_under, halfway_over, nearest_ge, nearest-lt}
use Rattle.hazards.proofs.WholeRoots.{Even, made_even, some_nearest}

-- ---- the pattern j * 2^52 + p, where p is nearest to the root of n * 2^52: from p's halfway points to the pattern's

over_made : (x p J : ℕ) → 0 < J → x < (2 * p + 1) * (2 * p + 1) → x * (J * J) < (p * J + (p * J + J)) * (p * J + (p * J + J))
over_made x p J pos h = lt_of_lt_of_le (mul-lt-mul_of_pos_right h (mul-pos pos pos)) (le_of_eq (omega arith))

under_made : (x k J : ℕ) → 0 < J → (2 * k + 1) * (2 * k + 1) < x → (k * J + (k + 1) * J) * (k * J + (k + 1) * J) < x * (J * J)
under_made x k J pos h = lt_of_le_of_lt (le_of_eq (omega arith)) (mul-lt-mul_of_pos_right h (mul-pos pos pos))

-- at p = 2^52 the lower neighbour is half as far
lowest_made : (x K : ℕ) → 0 < K → (2 ^ 54 - 1) * (2 ^ 54 - 1) < x * 4
    → ((2 ^ 53 - 1) * K + 2 ^ 52 * (2 * K)) * ((2 ^ 53 - 1) * K + 2 ^ 52 * (2 * K)) < x * (2 * K * (2 * K))
lowest_made x K pos h =
    lt_of_le_of_lt (le_of_eq (omega arith)) (lt_of_lt_of_le (mul-lt-mul_of_pos_right h (mul-pos pos pos)) (le_of_eq (omega arith)))

module _ (n p j : ℕ) (big : 2 ^ 52 ≤ n) (small : n ≤ 2 ^ 54 - 2) (v : NearestWhole n p) (pos : 0 < j) where
  abbrev c : ℕ
  c = j * 2 ^ 52 + p

  ge : 2 ^ 52 ≤ p
  ge = nearest_ge n p v big

  lt : p < 2 ^ 53
  lt = nearest-lt n p v small

  over : n * 2 ^ 54 * (2 ^ j * 2 ^ j) < halfway_square c
  over = rw (multiple_made j p ge lt, next_made j p ge lt) (over_made (n * 2 ^ 54) p (2 ^ j) (pow_pos j) (halfway_over n p v))

  abbrev Under : Type 0
  Under = (multiple (c - 1) + multiple c) * (multiple (c - 1) + multiple c) < n * 2 ^ 54 * (2 ^ j * 2 ^ j)

  under-any : 2 ^ 52 < p → Under
  under-any l =
      let a : c - 1 ≡ j * 2 ^ 52 + (p - 1) = omega arith in
      let d : p ≡ p - 1 + 1 = omega arith in
      let f : multiple c ≡ (p - 1 + 1) * 2 ^ j = multiple_made j p ge lt ∙ ap (λ (x : ℕ). x * 2 ^ j) d in
      rw (a, multiple_made j (p - 1) (omega arith) (omega (arith, lt)), f)
      (under_made (n * 2 ^ 54) (p - 1) (2 ^ j) (pow_pos j) (halfway_under n p v (p - 1) d))

  under_lowest : p ≡ 2 ^ 52 → Under
  under_lowest q =
      let i = j - 1 in
      let a : c - 1 ≡ i * 2 ^ 52 + (2 ^ 53 - 1) = omega arith in
      let s : j ≡ suc i = omega arith in
      let t : 2 ^ j ≡ 2 * 2 ^ i = ap (λ (x : ℕ). 2 ^ x) s ∙ pow-succ' 2 i in
      let f : multiple c ≡ 2 ^ 52 * 2 ^ j = multiple_made j p ge lt ∙ ap (λ (x : ℕ). x * 2 ^ j) q in
      rw (a, multiple_made i (2 ^ 53 - 1) (lit≤ tt) (lit< tt), f, t)
      (lowest_made (n * 2 ^ 54) (2 ^ i) (pow_pos i) (omega arith))

  under : halfway_square (c - 1) < n * 2 ^ 54 * (2 ^ j * 2 ^ j)
  under =
      let e : c - 1 + 1 ≡ c = omega arith in
      rw e (by_test (ltb (2 ^ 52) p) (λ t. under-any (ltb-true _ _ t)) (λ t. under_lowest (le_antisymm (ltb-false _ _ t) ge)))

  nearest_made : (b : ℕ) → quarters b ≡ n * 2 ^ 54 * (2 ^ j * 2 ^ j) → NearestPattern b c
  nearest_made b e = record { below = rw e under; above = rw e over }

-- ---- a value's 53 digits and the power of two that they are multiplied by

-- four times d * 2^m, with the power taken apart
power_apart : (m j : ℕ) → m + 2 ≡ m % 2 + (54 + (j + j)) → 2 ^ m * 4 ≡ 2 ^ (m % 2) * (2 ^ 54 * (2 ^ j * 2 ^ j))
power_apart m j e =
    sym (pow-add 2 m 2)
    ∙ ap (λ (x : ℕ). 2 ^ x) e
    ∙ pow-add 2 (m % 2) (54 + (j + j))
    ∙ ap (λ (x : ℕ). 2 ^ (m % 2) * x) (pow-add 2 54 (j + j) ∙ ap (λ (x : ℕ). 2 ^ 54 * x) (pow-add 2 j j))

regrouped : (d a b k l : ℕ) → a * 4 ≡ b * (k * l) → 4 * (d * a) ≡ d * b * k * l
regrouped d a b k l f =
    let g : 4 * (d * a) ≡ d * (a * 4) = omega arith in
    g ∙ ap (λ (x : ℕ). d * x) f ∙ sym (mul_assoc d b (k * l)) ∙ sym (mul_assoc (d * b) k l)

four_times : (d m : ℕ) → 52 ≤ m → 4 * (d * 2 ^ m) ≡ d * 2 ^ (m % 2) * 2 ^ 54 * (2 ^ (m / 2 - 26) * 2 ^ (m / 2 - 26))
four_times d m h =
    let j = m / 2 - 26 in
    regrouped d (2 ^ m) (2 ^ (m % 2)) (2 ^ 54) (2 ^ j * 2 ^ j) (power_apart m j (omega arith))

module _ (b d m p : ℕ) (a : AllDigits (multiple b * 2 ^ 1074) d m) (v : NearestWhole (d * (1 + m % 2)) p) where
  even : Even d (m % 2)
  even = made_even (a.1, a.2, omega arith)

  quarters_are : quarters b ≡ d * (1 + m % 2) * 2 ^ 54 * (2 ^ (m / 2 - 26) * 2 ^ (m / 2 - 26))
  quarters_are = rw (← a.0, even.0) (four_times d m (omega arith))

  pub root_made : NearestPattern b ((m / 2 - 26) * 2 ^ 52 + p)
  root_made = nearest_made (d * (1 + m % 2)) p (m / 2 - 26) even.1 even.2 v (omega arith) b quarters_are

  pub root_finite : (m / 2 - 26) * 2 ^ 52 + p < infinity_pattern
  root_finite = omega (arith, nearest-lt (d * (1 + m % 2)) p v even.2)

-- ---- the digits of every finite value above 0

pub subnormal_digits : (b d m : ℕ) → b / 2 ^ 52 ≡ 0 → d * 2 ^ m ≡ b % 2 ^ 52 * 2 ^ 1074 → d * 2 ^ m ≡ multiple b * 2 ^ 1074
subnormal_digits b d m e f = f ∙ ap (λ (x : ℕ). x * 2 ^ 1074) (sym (multiple_subnormal b e))

pub normal_digits : (b : ℕ) → 0 < b / 2 ^ 52 → (b % 2 ^ 52 + 2 ^ 52) * 2 ^ (b / 2 ^ 52 + 1073) ≡ multiple b * 2 ^ 1074
normal_digits b h =
    let k = b / 2 ^ 52 - 1 in
    let e : b / 2 ^ 52 ≡ suc k = omega arith in
    let s : b / 2 ^ 52 + 1073 ≡ k + 1074 = omega arith in
    ap (λ (x : ℕ). (b % 2 ^ 52 + 2 ^ 52) * x) (ap (λ (x : ℕ). 2 ^ x) s ∙ pow-add 2 k 1074)
    ∙ sym (mul_assoc (b % 2 ^ 52 + 2 ^ 52) (2 ^ k) (2 ^ 1074))
    ∙ ap (λ (x : ℕ). x * 2 ^ 1074) (sym (multiple_normal b k e))

abbrev SomeDigits : ℕ → Type 0
SomeDigits N = (d : ℕ) × ((m : ℕ) × AllDigits N d m)

doubled : (N k d : ℕ) → k ≤ 52 → d < 2 ^ 53 → 2 ^ 52 ≤ d * 2 ^ k → d * 2 ^ (1022 + k) ≡ N → SomeDigits N
doubled N zero d g h l e = (d, (1022, (e, omega arith, h, omega arith, omega arith)))
doubled N (suc k) d g h l e =
    let s : 1022 + suc k - 1 ≡ 1022 + k = omega arith in
    let two : 2 ^ 52 ≤ d * (2 * 2 ^ k) = rw (pow-succ' 2 k) at l in
    let same : 2 * d * 2 ^ (1022 + k) ≡ N = rw s at (moved d (1022 + suc k) (omega arith) ∙ e) in
    by_test (ltb d (2 ^ 52)) (λ t. doubled N k (2 * d) (omega arith) (omega (arith, ltb-true d (2 ^ 52) t)) (omega arith) same)
    (λ t. (d, (1022 + suc k, (e, ltb-false _ _ t, h, omega arith, omega arith))))

some_digits : (b : ℕ) → 0 < b → b < infinity_pattern → SomeDigits (multiple b * 2 ^ 1074)
some_digits b pos h = by_test (ltb 0 (b / 2 ^ 52)) (λ t. normal (ltb-true _ _ t)) (λ t. subnormal (ltb-false _ _ t))
  where
    normal : 0 < b / 2 ^ 52 → SomeDigits (multiple b * 2 ^ 1074)
    normal k = (b % 2 ^ 52 + 2 ^ 52, (b / 2 ^ 52 + 1073, (normal_digits b k, omega arith, omega arith, omega arith, omega arith)))

    subnormal : b / 2 ^ 52 ≤ 0 → SomeDigits (multiple b * 2 ^ 1074)
    subnormal k =
        doubled (multiple b * 2 ^ 1074) 52 (b % 2 ^ 52) (omega arith) (omega arith) (omega arith)
        (subnormal_digits b (b % 2 ^ 52) 1074 (omega arith) refl)

-- ---- no pattern but `root_pattern b` is nearest: the halfway points grow, and the last one's square is above every finite value

square_mono : (a b : ℕ) → a ≤ b → halfway_square a ≤ halfway_square b
square_mono a b h = square_le (add-le-add (multiple_mono a b h) (multiple_mono (a + 1) (b + 1) (omega arith)))

goes_on : (b : ℕ) → GoesOn (square_above b) 0 (2 ^ 63)
unfolding square_above
goes_on b i k l h g t = lt-ltb _ _ (lt_of_lt_of_le (ltb-true _ _ t) (square_mono i k h))

above_infinity : quarters infinity_pattern < halfway_square (2 ^ 63 - 1)
unfolding fields_multiple multiple
above_infinity = lit< tt

module _ (b : ℕ) (h : b < infinity_pattern) where
  above_last : quarters b < halfway_square (2 ^ 63 - 1)
  above_last =
      lt_of_le_of_lt (mul-le-mul_left 4 (mul-le-mul_right (2 ^ 1074) (multiple_mono b infinity_pattern (le_of_lt h)))) above_infinity

  first_is : FirstPlace (square_above b) 0 (2 ^ 63) (root_pattern b)
  unfolding square_above root_pattern
  first_is = first-of (square_above b) 63 0 (goes_on b) (lt-ltb _ _ above_last)

  module _ (c : ℕ) (v : NearestPattern b c) where
    -- up to c's lower halfway point none has a square above
    not_later : (i : ℕ) → i ≤ c - 1 → quarters b < halfway_square i → ⊥
    not_later i h l = lt_irrefl (quarters b) (lt_of_lt_of_le l (le_trans (square_mono i (c - 1) h) (le_of_lt v.below)))

    above_zero : 0 < c
    above_zero = lt_of_not-le (λ (g : c ≤ 0). not_later c (omega arith) v.above)

    before_last : c - 1 < 2 ^ 63 - 1
    before_last = lt_of_not-le (λ (g : 2 ^ 63 - 1 ≤ c - 1). not_later (2 ^ 63 - 1) g above_last)

    nearest_first : FirstPlace (square_above b) 0 (2 ^ 63) c
    unfolding square_above
    nearest_first =
        let e : c - 1 + 1 ≡ c = omega (arith, above_zero) in
        let below = le-ltb _ _ (le_of_lt v.below) in
        let above = lt-ltb _ _ v.above in
        rw e at (at_step {place = c - 1} (goes_on b) (omega arith) (omega (arith, before_last)) below (rw e above))

    pub nearest_is : c ≡ root_pattern b
    nearest_is = one_first nearest_first first_is

  -- and it is
  pub root_nearest : 0 < b → NearestPattern b (root_pattern b) × (root_pattern b < infinity_pattern)
  root_nearest pos = go (some_digits b pos h)
    where
      go : SomeDigits (multiple b * 2 ^ 1074) → NearestPattern b (root_pattern b) × (root_pattern b < infinity_pattern)
      go (d, (m, a)) =
          let w = some_nearest (d * (1 + m % 2)) (omega (arith, made_even {o = m % 2} (a.1, a.2, omega arith))) in
          let v = root_made b d m w.0 a w.1 in
          let e = nearest_is ((m / 2 - 26) * 2 ^ 52 + w.0) v in
          (subst (λ (c : ℕ). NearestPattern b c) e v, subst (λ (c : ℕ). c < infinity_pattern) e (root_finite b d m w.0 a w.1))
