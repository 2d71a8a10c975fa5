-- How many times 2^-1074, the smallest f64 above 0, a bit pattern with the sign clear stands for, and that this grows with the pattern.
use mathlib.Core.Path.{◌≡◌, refl, sym, ap, ◌∙◌, subst}
use mathlib.Core.Bool.{Bool, true, false}
use Prim.Native.Nat.{ℕ, zero, suc, ◌+◌, ◌-◌, ◌*◌, ◌/◌, ◌%◌, ◌^◌, ◌≤◌, ◌<◌}
use native.Mathlib.Nat.{le_trans, le_of_eq, lt_of_lt_of_le, mod-eq_of_lt, mul-one, pow-succ', le_of_suc-le-suc, lt_of_not-le}
use native.Mathlib.Nat.{not-le_of_lt, le-add_right, add_comm}
use native.Mathlib.Omega.{arith}
use native.Mathlib.Numerals.{add-one}
use borrow.Author.Tests.{lt-leb, ne_eqb, ltb-true, ltb-false}
use lib.Dec.{ltb, lit<}
use lib.Pow.{pow_pos}
use lib.Ieee.{binary64, of_bits, of_fields}
use lib.Ieee.Exact.{HasValue, odd_sign}
use Rattle.hazards.specs.Roots.{fields_multiple, multiple}
use Rattle.hazards.specs.RootsInternals.{infinity_pattern}

-- ---- from a pattern to the next

unfoldable spacing : ℕ → ℕ
spacing zero = 1
spacing (suc k) = 2 ^ k

within : (e t : ℕ) → fields_multiple e (t + 1) ≡ fields_multiple e t + spacing e
unfolding fields_multiple spacing
within zero t = refl
within (suc k) t = omega arith

carried : (e t : ℕ) → t + 1 ≡ 2 ^ 52 → fields_multiple (e + 1) 0 ≡ fields_multiple e t + spacing e
unfolding fields_multiple spacing
carried e t h = ap (λ (x : ℕ). fields_multiple x 0) (add-one e) ∙ go e
  where
    twice : (t p : ℕ) → t + 1 ≡ 2 ^ 52 → (2 ^ 52 + 0) * (2 * p) ≡ (2 ^ 52 + t) * p + p
    twice t p h =
        let e : t ≡ 2 ^ 52 - 1 = omega arith in
        rw e (omega arith)

    go : (e : ℕ) → fields_multiple (suc e) 0 ≡ fields_multiple e t + spacing e
    go zero = sym h
    go (suc k) = ap (λ (x : ℕ). (2 ^ 52 + 0) * x) (pow-succ' 2 k) ∙ twice t (2 ^ k) h

multiple_next : (b : ℕ) → multiple (b + 1) ≡ multiple b + spacing (b / 2 ^ 52)
unfolding multiple
multiple_next b = go (ltb (b % 2 ^ 52 + 1) (2 ^ 52)) refl
  where
    go : (x : Bool) → ltb (b % 2 ^ 52 + 1) (2 ^ 52) ≡ x
        → fields_multiple ((b + 1) / 2 ^ 52) ((b + 1) % 2 ^ 52) ≡ fields_multiple (b / 2 ^ 52) (b % 2 ^ 52) + spacing (b / 2 ^ 52)
    go true h =
        let l : b % 2 ^ 52 + 1 < 2 ^ 52 = ltb-true _ _ h in
        let p : (b + 1) / 2 ^ 52 ≡ b / 2 ^ 52 = omega arith in
        let q : (b + 1) % 2 ^ 52 ≡ b % 2 ^ 52 + 1 = omega arith in
        rw (p, q) (within (b / 2 ^ 52) (b % 2 ^ 52))
    go false h =
        let l : 2 ^ 52 ≤ b % 2 ^ 52 + 1 = ltb-false _ _ h in
        let p : (b + 1) / 2 ^ 52 ≡ b / 2 ^ 52 + 1 = omega arith in
        let q : (b + 1) % 2 ^ 52 ≡ 0 = omega arith in
        rw (p, q) (carried (b / 2 ^ 52) (b % 2 ^ 52) (omega arith))

spacing_pos : (e : ℕ) → 0 < spacing e
unfolding spacing
spacing_pos zero = lit< tt
spacing_pos (suc k) = pow_pos k

-- ---- the order of the patterns is that of the values

later : (a d : ℕ) → multiple a ≤ multiple (a + d)
later a zero = le_of_eq (ap multiple (omega arith))
later a (suc d) =
    let e : a + suc d ≡ a + d + 1 = omega arith in
    le_trans (later a d) (rw (e, multiple_next (a + d)) (le-add_right (multiple (a + d)) (spacing ((a + d) / 2 ^ 52))))

pub multiple_mono : (a b : ℕ) → a ≤ b → multiple a ≤ multiple b
multiple_mono a b h =
    let e : a + (b - a) ≡ b = omega arith in
    rw e at (later a (b - a))

pub multiple-lt : (a b : ℕ) → a < b → multiple a < multiple b
multiple-lt a b h =
    lt_of_lt_of_le (omega (arith, multiple_next a, spacing_pos (a / 2 ^ 52))) (multiple_mono (a + 1) b (omega arith))

pub multiple_back : (a b : ℕ) → multiple a ≤ multiple b → a ≤ b
multiple_back a b h = le_of_suc-le-suc (lt_of_not-le (λ (g : suc b ≤ a). not-le_of_lt (multiple-lt b a g) h))

-- ---- a pattern made of 53 digits p and the power of two that they are multiplied by

pub multiple_made : (j p : ℕ) → 2 ^ 52 ≤ p → p < 2 ^ 53 → multiple (j * 2 ^ 52 + p) ≡ p * 2 ^ j
unfolding multiple fields_multiple
multiple_made j p l h =
    let e : (j * 2 ^ 52 + p) / 2 ^ 52 ≡ suc j = omega arith in
    let f : (j * 2 ^ 52 + p) % 2 ^ 52 ≡ p - 2 ^ 52 = omega arith in
    let g : 2 ^ 52 + (p - 2 ^ 52) ≡ p = omega arith in
    rw (e, f) (ap (λ (x : ℕ). x * 2 ^ j) g)

-- and the one after it
pub next_made : (j p : ℕ) → 2 ^ 52 ≤ p → p < 2 ^ 53 → multiple (j * 2 ^ 52 + p + 1) ≡ p * 2 ^ j + 2 ^ j
unfolding spacing
next_made j p l h =
    let e : (j * 2 ^ 52 + p) / 2 ^ 52 ≡ suc j = omega arith in
    rw (multiple_next (j * 2 ^ 52 + p), multiple_made j p l h, e)

-- ---- the fields of a pattern

by_fields : (b e t : ℕ) → b / 2 ^ 52 ≡ e → b % 2 ^ 52 ≡ t → multiple b ≡ fields_multiple e t
unfolding multiple
by_fields b e t p q = rw (p, q)

pub multiple_subnormal : (b : ℕ) → b / 2 ^ 52 ≡ 0 → multiple b ≡ b % 2 ^ 52
unfolding fields_multiple
multiple_subnormal b e = by_fields b 0 (b % 2 ^ 52) e refl

pub multiple_normal : (b k : ℕ) → b / 2 ^ 52 ≡ suc k → multiple b ≡ (b % 2 ^ 52 + 2 ^ 52) * 2 ^ k
unfolding fields_multiple
multiple_normal b k e = by_fields b (suc k) (b % 2 ^ 52) e refl ∙ ap (λ (x : ℕ). x * 2 ^ k) (add_comm (2 ^ 52) (b % 2 ^ 52))

-- ---- the value

fields_value : (e t : ℕ) → e < 2047 → HasValue (of_fields binary64 false e t) false (fields_multiple e t) (2 ^ 1074)
unfolding of_fields fields_multiple
fields_value zero t h =
    subst (λ (x : ℕ). HasValue (of_fields binary64 false 0 t) false x (2 ^ 1074)) (mul-one t) (odd_sign 53 false t 0 1074)
fields_value (suc k) t h = rw (ne_eqb (suc k) 2047 (omega arith)) (odd_sign 53 false (2 ^ 52 + t) k 1074)

pub multiple_value : (b : ℕ) → b < infinity_pattern → HasValue (of_bits binary64 b) false (multiple b) (2 ^ 1074)
unfolding of_bits multiple
multiple_value b h =
    let small : b < 2 ^ 63 = omega arith in
    rw (lt-leb (2 ^ 63) b small, mod-eq_of_lt small) (fields_value (b / 2 ^ 52) (b % 2 ^ 52) (omega arith))
