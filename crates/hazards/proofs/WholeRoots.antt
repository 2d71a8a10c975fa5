-- Whole roots, over plain numbers: the digits of a long one, the whole number nearest to the root of n * 2^52, and that there is one.
use mathlib.Core.Path.{◌≡◌, refl, sym, ap, ◌∙◌}
use Prim.Native.Nat.{ℕ, zero, suc, ◌+◌, ◌-◌, ◌*◌, ◌/◌, ◌%◌, ◌^◌, ◌≤◌, ◌<◌}
use native.Mathlib.Nat.{le_trans, lt_of_lt_of_le, lt_of_not-le, lt_irrefl, le_of_suc-le-suc, mul-le-mul, mul-le-mul_left, mul-le-mul_right, mul-lt-mul_of_pos_right, mul_assoc, mod-eq_of_lt, one-le-pow, pow-succ'}
use native.Mathlib.Nat.{add-sub_of_le}
use native.Mathlib.Omega.{arith}
use native.Mathlib.Numerals.{add-one}
use Rattle.std.proofs.Common.{pow-add}
use borrow.Author.Tests.{leb-true, leb-false}
use lib.Dec.{leb}
use lib.Pow.{pow_mono}
use Rattle.hazards.specs.RootsInternals.{AllDigits, NearestWhole}
use Rattle.hazards.proofs.Cases.{by_test}

pub square_le : {a b : ℕ} → a ≤ b → a * a ≤ b * b
square_le h = mul-le-mul h h

-- ---- a number given 53 digits, by as many places as its highest digit is below 2^52
module _ (n k : ℕ) (low : 2 ^ k ≤ n) (high : n < 2 * 2 ^ k) (below : n < 2 ^ 53) where
  pub places : k ≤ 52
  places = le_of_suc-le-suc (lt_of_not-le (λ (g : 53 ≤ k). lt_irrefl n (lt_of_lt_of_le below (le_trans (pow_mono {i = 53} {j = k} g) low))))

  reached : 2 ^ k * 2 ^ (52 - k) ≡ 2 ^ 52
  reached = sym (pow-add 2 k (52 - k)) ∙ ap (λ (x : ℕ). 2 ^ x) (add-sub_of_le places)

  least : 2 ^ 52 ≤ n * 2 ^ (52 - k)
  least = rw (← reached) (mul-le-mul_right (2 ^ (52 - k)) low)

  most : n * 2 ^ (52 - k) < 2 ^ 53
  most =
      let e : 2 * 2 ^ k * 2 ^ (52 - k) ≡ 2 ^ 53 = mul_assoc 2 (2 ^ k) (2 ^ (52 - k)) ∙ ap (λ (x : ℕ). 2 * x) reached in
      rw (← e) (mul-lt-mul_of_pos_right high (one-le-pow (52 - k) 2 (omega arith)))

  same : n * 2 ^ (52 - k) * 2 ^ (1074 - (52 - k)) ≡ n * 2 ^ 1074
  same =
      mul_assoc n (2 ^ (52 - k)) (2 ^ (1074 - (52 - k)))
      ∙ ap (λ (x : ℕ). n * x) (sym (pow-add 2 (52 - k) (1074 - (52 - k))) ∙ ap (λ (x : ℕ). 2 ^ x) (add-sub_of_le (omega arith)))

  pub all_digits : AllDigits (n * 2 ^ 1074) (n * 2 ^ (52 - k) % 2 ^ 64) (1074 - (52 - k))
  all_digits =
      let small : n * 2 ^ (52 - k) % 2 ^ 64 ≡ n * 2 ^ (52 - k) = mod-eq_of_lt (omega (arith, most)) in
      rw small (same, least, most, omega arith, omega arith)

-- twice the digits and one power less: the same value
pub moved : (d p : ℕ) → 0 < p → 2 * d * 2 ^ (p - 1) ≡ d * 2 ^ p
moved d p h =
    let e : p ≡ suc (p - 1) = omega arith in
    let f : 2 ^ p ≡ 2 * 2 ^ (p - 1) = ap (λ (x : ℕ). 2 ^ x) e ∙ pow-succ' 2 (p - 1) in
    rw f (omega arith)

-- ---- a root with one binary digit more

digit_one : (n p r d : ℕ) → r * r + d ≡ n * (p * p) → r < d → d ≤ 2 * r
    → ((2 * r + 1) * (2 * r + 1) + (4 * d - 4 * r - 1) ≡ n * (2 * p * (2 * p))) × (4 * d - 4 * r - 1 ≤ 2 * (2 * r + 1))
digit_one n p r d e h k = (omega arith, omega arith)

digit_zero : (n p r d : ℕ) → r * r + d ≡ n * (p * p) → d ≤ r
    → (2 * r * (2 * r) + 4 * d ≡ n * (2 * p * (2 * p))) × (4 * d ≤ 2 * (2 * r))
digit_zero n p r d e h = (omega arith, omega arith)

-- after i digits, where n * 4^i - root * root is left
pub record After (n i root left : ℕ) : Type 0 where
  pub turns : i ≤ 27
  pub exact : root * root + left ≡ n * (2 ^ i * 2 ^ i)
  pub most : left ≤ 2 * root
  pub length : root < 2 ^ 27 * 2 ^ i

twice : (i : ℕ) → 2 ^ (i + 1) ≡ 2 * 2 ^ i
twice i = ap (λ (x : ℕ). 2 ^ x) (add-one i) ∙ pow-succ' 2 i

module _ {n i r d : ℕ} (v : After n i r d) (l : i < 27) where
  pub after_one : r < d → After n (i + 1) (2 * r + 1) (4 * d - 4 * r - 1)
  after_one h =
      let s = digit_one n (2 ^ i) r d v.exact h v.most in
      record { turns = omega arith; exact = rw (twice i) s.0; most = s.1; length = rw (twice i) (omega (arith, v.length)) }

  pub after_zero : d ≤ r → After n (i + 1) (2 * r) (4 * d)
  after_zero h =
      let s = digit_zero n (2 ^ i) r d v.exact h in
      record { turns = omega arith; exact = rw (twice i) s.0; most = s.1; length = rw (twice i) (omega (arith, v.length)) }

  -- four times either fits a word
  pub after_small : (r < 2 ^ 53) × (d < 2 ^ 54)
  after_small =
      let p : 2 ^ i ≤ 2 ^ 26 = pow_mono {i = i} {j = 26} (omega arith) in
      (omega (arith, v.length), omega (arith, v.most, v.length))

pub after-all : {n r d : ℕ} → After n 27 r d → (r * r ≤ n * 2 ^ 54) × (n * 2 ^ 54 < (r + 1) * (r + 1)) × (r < 2 ^ 54)
after-all v = (omega (arith, v.exact), omega (arith, v.exact, v.most), v.length)

-- ---- the test of a whole number p, written as a * 2^26 + b

pub high_square : (p : ℕ) → p ≤ 2 ^ 53 → p / 2 ^ 26 * (p / 2 ^ 26) ≤ 2 ^ 54
high_square p h = square_le {a = p / 2 ^ 26} {b = 2 ^ 27} (omega arith)

pub low_square : (p : ℕ) → p % 2 ^ 26 * (p % 2 ^ 26) ≤ 2 ^ 52
low_square p = square_le {a = p % 2 ^ 26} {b = 2 ^ 26} (omega arith)

pub cross_product : (p : ℕ) → p ≤ 2 ^ 53 → p / 2 ^ 26 * (p % 2 ^ 26) ≤ 2 ^ 53
cross_product p h = mul-le-mul {n₁ = p / 2 ^ 26} {m₁ = p % 2 ^ 26} {n₂ = 2 ^ 27} {m₂ = 2 ^ 26} (omega arith) (omega arith)

square_of : (n a b p left rest : ℕ) → p ≡ a * 2 ^ 26 + b → a * a + left ≡ n + 4 → a * b + rest ≡ left * 2 ^ 25
    → p * p + rest * 2 ^ 27 ≡ n * 2 ^ 52 + (2 ^ 54 + b * b)
square_of n a b p left rest e f g =
    rw e (omega arith)

tested : (n p rest below : ℕ) → p * p + rest * 2 ^ 27 ≡ n * 2 ^ 52 + below → below < rest * 2 ^ 27 + p
    → rest * 2 ^ 27 + p ≤ below + 2 * p → NearestWhole n p
tested n p rest below e l h = record { above = omega arith; below = omega arith }

pub test_nearest : (n a b p : ℕ) → p ≡ a * 2 ^ 26 + b → a * a ≤ n + 4 → a * b ≤ (n + 4 - a * a) * 2 ^ 25
    → 2 ^ 54 + b * b < ((n + 4 - a * a) * 2 ^ 25 - a * b) * 2 ^ 27 + p
    → ((n + 4 - a * a) * 2 ^ 25 - a * b) * 2 ^ 27 + p ≤ 2 ^ 54 + b * b + 2 * p → NearestWhole n p
test_nearest n a b p e k l below above =
    let rest = (n + 4 - a * a) * 2 ^ 25 - a * b in
    tested n p rest (2 ^ 54 + b * b) (square_of n a b p (n + 4 - a * a) rest e (add-sub_of_le k) (add-sub_of_le l)) below above

-- ---- what a nearest whole number is

module _ (n p : ℕ) (v : NearestWhole n p) where
  -- between the squares of twice its two halfway points
  pub halfway_under : (k : ℕ) → p ≡ k + 1 → (2 * k + 1) * (2 * k + 1) < n * 2 ^ 54
  halfway_under k e =
      let a : (k + 1) * (k + 1) < n * 2 ^ 52 + (k + 1) = rw e at v.above in
      omega arith

  pub halfway_over : n * 2 ^ 54 < (2 * p + 1) * (2 * p + 1)
  halfway_over = omega (arith, v.below)

  -- with 53 digits, where n has 53 or 54
  pub nearest_ge : 2 ^ 52 ≤ n → 2 ^ 52 ≤ p
  nearest_ge l = le_of_suc-le-suc (lt_of_not-le (λ (g : suc p ≤ 2 ^ 52). absurd (no g)))
    where
      no : suc p ≤ 2 ^ 52 → ⊥
      no g =
          let s : p * (p + 1) ≤ p * 2 ^ 52 = mul-le-mul_left p (omega arith) in
          omega (arith, v.below)

  pub nearest-lt : n ≤ 2 ^ 54 - 2 → p < 2 ^ 53
  nearest-lt l = lt_of_not-le (λ (g : 2 ^ 53 ≤ p). absurd (no (p - 2 ^ 53) (omega arith)))
    where
      no : (q : ℕ) → p ≡ q + 2 ^ 53 → ⊥
      no q e =
          let a : (q + 2 ^ 53) * (q + 2 ^ 53) < n * 2 ^ 52 + (q + 2 ^ 53) = rw e at v.above in
          omega arith

-- ---- d with 53 digits, or twice d

abbrev pub Even : (d o : ℕ) → Type 0
Even d o = (d * (1 + o) ≡ d * 2 ^ o) × (2 ^ 52 ≤ d * (1 + o)) × (d * (1 + o) ≤ 2 ^ 54 - 2)

pub made_even : {d o : ℕ} → (2 ^ 52 ≤ d) × (d < 2 ^ 53) × (o < 2) → Even d o
made_even {d} {o} h = go o h.2
  where
    go : (o : ℕ) → o < 2 → Even d o
    go zero k = (refl, omega arith, omega arith)
    go (suc zero) k = (refl, omega arith, omega arith)
    go (suc (suc o)) k = absurd (omega arith)

pub even_nearest : {d o p : ℕ} → (2 ^ 52 ≤ d) × (d < 2 ^ 53) × (o < 2) → NearestWhole (d * (1 + o)) p
    → NearestWhole (d * (1 + o)) p × (p < 2 ^ 53)
even_nearest {d} {o} {p} h v = (v, nearest-lt (d * (1 + o)) p v (made_even h).2)

-- ---- half of a root with one digit more, rounded

pub rounded : (n r : ℕ) → 0 < n → r * r ≤ n * 2 ^ 54 → n * 2 ^ 54 < (r + 1) * (r + 1) → NearestWhole n ((r + 1) / 2)
rounded n r pos low high = record {
  above = half n r ((r + 1) / 2 - 1) pos low (omega (arith, some)) (omega (arith, some));
  below = omega (arith, high, square_le {a = r + 1} {b = 2 * ((r + 1) / 2) + 1} (omega arith));
}
  where
    some : 0 < r
    some = lt_of_not-le (λ (g : r ≤ 0). absurd (no (omega arith)))
      where
        no : r ≡ 0 → ⊥
        no e = let h : n * 2 ^ 54 < 1 = rw e at high in omega arith

    half : (n r k : ℕ) → 0 < n → r * r ≤ n * 2 ^ 54 → 2 * k + 1 ≤ r → (r + 1) / 2 ≡ k + 1
        → (r + 1) / 2 * ((r + 1) / 2) < n * 2 ^ 52 + (r + 1) / 2
    half n r k pos low l e =
        let s : (2 * k + 1) * (2 * k + 1) ≤ r * r = square_le l in
        rw e (omega arith)

-- ---- there is one

whole_root : (n : ℕ) → (r : ℕ) × ((r * r ≤ n) × (n < (r + 1) * (r + 1)))
whole_root zero = (0, (omega arith, omega arith))
whole_root (suc n) = go (whole_root n)
  where
    go : ((r : ℕ) × ((r * r ≤ n) × (n < (r + 1) * (r + 1)))) → (r : ℕ) × ((r * r ≤ suc n) × (suc n < (r + 1) * (r + 1)))
    go (r, (l, h)) =
        by_test (leb ((r + 1) * (r + 1)) (suc n))
        (λ t. (r + 1, (leb-true _ _ t, omega arith)))
        (λ t. (r, (omega arith, leb-false _ _ t)))

pub some_nearest : (n : ℕ) → 0 < n → (p : ℕ) × NearestWhole n p
some_nearest n pos =
    let w = whole_root (n * 2 ^ 54) in
    ((w.0 + 1) / 2, rounded n w.0 pos w.1.0 w.1.1)
