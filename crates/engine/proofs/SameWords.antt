-- One number of coded rows: what it is read as is the same as what another is read as exactly where the two numbers are the same.
use mathlib.Core.Path.{◌≡◌, refl, sym, ◌∙◌, ap}
use mathlib.Core.Bool.{Bool, true, false, not, cond, ◌&&◌, ◌||◌, true≢false}
use mathlib.Core.List.{List, [], ◌∷◌}
use Prim.Native.Nat.{ℕ, zero, suc, ◌<◌}
use native.Mathlib.Nat.{mod-eq_of_lt}
use native.Mathlib.Omega.{arith}
use borrow.Author.Tests.{eq-eqb, eqb-true, ltb-true, leb-true}
use lib.Dec.{eqb, ltb, leb}
use lib.IntN.{ℤ, pos, negsuc}
use lib.ListN.{get_or}
use lib.Ieee.{Float, nan, inf, fin, binary64, is_nan, to_bits}
use mir.Facts.{to_z_inj}
use mir.Syntax.{w32}
use mir.Val.{to_z}
use Rattle.hazards.specs.Floats.{z, zero_bits}
use Rattle.hazards.specs.Rates.{kinds, rate_of_kind, kind_number, own_rate}
use Rattle.hazards.specs.Ties.{tie_breaker_of, tie_number}
use Rattle.hazards.proofs.Cases.{by_test, both_true}
use Rattle.clocks.specs.Clocks.{policy_of, policy_number}
use Rattle.clocks.specs.Layout.{every_below, flag_from, u32_from, byte_from, is_flag, is_u32, is_byte}
use Rattle.engine.specs.Comparison.{same_flag, same_integer, same_float, same_hazard}
use Rattle.engine.proofs.ComparisonLaws.{integer_same}

-- ---- tests

-- two tests that each pass where the other does
pub both_ways : (a b : Bool) → (a ≡ true → b ≡ true) → (b ≡ true → a ≡ true) → a ≡ b
both_ways true b f g = sym (f refl)
both_ways false true f g = g refl
both_ways false false f g = refl

-- tests joined by `&&`, and each of them where they all pass
abbrev pub all_of : List Bool → Bool
all_of [] = true
all_of (t ∷ []) = t
all_of (t ∷ u ∷ us) = t && all_of (u ∷ us)

pub each_of : (ts : List Bool) → all_of ts ≡ true → (i : ℕ) → get_or ts i true ≡ true
each_of [] h i = refl
each_of (t ∷ []) h zero = h
each_of (t ∷ []) h (suc i) = refl
each_of (t ∷ u ∷ us) h zero = (both_true t (all_of (u ∷ us)) h).0
each_of (t ∷ u ∷ us) h (suc i) = each_of (u ∷ us) (both_true t (all_of (u ∷ us)) h).1 i

pub every_eight : (test : ℕ → Bool) → test 0 ≡ true → test 1 ≡ true → test 2 ≡ true → test 3 ≡ true → test 4 ≡ true → test 5 ≡ true
    → test 6 ≡ true → test 7 ≡ true → every_below 8 test ≡ true
unfolding every_below
every_eight test a b c d e f g h = rw (a, b, c, d, e, f, g, h)

-- ---- words

flag_number : (x : ℕ) → is_flag x ≡ true → cond (flag_from x) 1 0 ≡ x
flag_number zero h = refl
flag_number (suc zero) h = refl
flag_number (suc (suc x)) h = absurd (omega (arith, ltb-true (suc (suc x)) 2 h))

policy-number : (x : ℕ) → ltb x 2 ≡ true → policy_number (policy_of (byte_from x)) ≡ x
policy-number zero h = refl
policy-number (suc zero) h = refl
policy-number (suc (suc x)) h = absurd (omega (arith, ltb-true (suc (suc x)) 2 h))

tie-number : (x : ℕ) → ltb x 3 ≡ true → tie_number (tie_breaker_of (byte_from x)) ≡ x
tie-number zero h = refl
tie-number (suc zero) h = refl
tie-number (suc (suc zero)) h = refl
tie-number (suc (suc (suc x))) h = absurd (omega (arith, ltb-true (suc (suc (suc x))) 3 h))

kind-number : (x : ℕ) (rate : Float) → ltb x kinds ≡ true → kind_number (rate_of_kind (byte_from x) rate) ≡ x
kind-number zero rate h = refl
kind-number (suc zero) rate h = refl
kind-number (suc (suc zero)) rate h = refl
kind-number (suc (suc (suc zero))) rate h = refl
kind-number (suc (suc (suc (suc zero)))) rate h = refl
kind-number (suc (suc (suc (suc (suc x))))) rate h = absurd (omega (arith, ltb-true (suc (suc (suc (suc (suc x))))) kinds h))

flags_as_numbers : (a b : Bool) → same_flag a b ≡ eqb (cond a 1 0) (cond b 1 0)
flags_as_numbers true true = refl
flags_as_numbers true false = refl
flags_as_numbers false true = refl
flags_as_numbers false false = refl

integer_back : (a b : ℤ) → same_integer a b ≡ true → a ≡ b
integer_back (pos a) (pos b) h =
    let p = both_true (leb a b) (leb b a) h in
    ap pos (omega (arith, leb-true a b p.0, leb-true b a p.1))
integer_back (pos a) (negsuc b) h = absurd (true≢false (sym h))
integer_back (negsuc a) (pos b) h = absurd (true≢false (sym h))
integer_back (negsuc a) (negsuc b) h =
    let p = both_true (leb b a) (leb a b) h in
    ap negsuc (omega (arith, leb-true b a p.0, leb-true a b p.1))

module _ (x y : ℕ) where
  pub flag_as : is_flag x ≡ true → is_flag y ≡ true → same_flag (flag_from x) (flag_from y) ≡ eqb x y
  flag_as h k = flags_as_numbers (flag_from x) (flag_from y) ∙ rw (flag_number x h, flag_number y k)

  pub u32_as : is_u32 x ≡ true → is_u32 y ≡ true → eqb (u32_from x) (u32_from y) ≡ eqb x y
  u32_as h k = rw (mod-eq_of_lt (ltb-true x 4294967296 h), mod-eq_of_lt (ltb-true y 4294967296 k))

  pub byte_as : is_byte x ≡ true → is_byte y ≡ true → eqb (byte_from x) (byte_from y) ≡ eqb x y
  byte_as h k = rw (mod-eq_of_lt (ltb-true x 256 h), mod-eq_of_lt (ltb-true y 256 k))

  pub policy_as : ltb x 2 ≡ true → ltb y 2 ≡ true
      → eqb (policy_number (policy_of (byte_from x))) (policy_number (policy_of (byte_from y))) ≡ eqb x y
  policy_as h k = rw (policy-number x h, policy-number y k)

  pub tie_as : ltb x 3 ≡ true → ltb y 3 ≡ true
      → eqb (tie_number (tie_breaker_of (byte_from x))) (tie_number (tie_breaker_of (byte_from y))) ≡ eqb x y
  tie_as h k = rw (tie-number x h, tie-number y k)

  pub priority_as : is_u32 x ≡ true → is_u32 y ≡ true → same_integer (to_z w32 (u32_from x)) (to_z w32 (u32_from y)) ≡ eqb x y
  priority_as h k =
      let l : x < 4294967296 = ltb-true x 4294967296 h in
      let m : y < 4294967296 = ltb-true y 4294967296 k in
      rw (mod-eq_of_lt l, mod-eq_of_lt m)
      (both_ways (same_integer (to_z w32 x) (to_z w32 y)) (eqb x y)
      (λ e.
      eq-eqb x y
      (to_z_inj {w = w32} (record { fits = l }) (record { fits = m }) (integer_back (to_z w32 x) (to_z w32 y) e)))
      (λ e. rw (eqb-true x y e) (integer_same (to_z w32 y))))

-- ---- floats

zero_no_nan : (x : Float) → zero_bits x ≡ true → is_nan x ≡ false
unfolding zero_bits to_bits is_nan
zero_no_nan nan h = absurd (true≢false (sym h))
zero_no_nan (inf s) h = refl
zero_no_nan (fin s m e) h = refl

pub zero-floats : (x y : Float) → zero_bits x ≡ true → zero_bits y ≡ true → same_float x y ≡ true
unfolding same_float zero_bits
zero-floats x y h k = rw (zero_no_nan x h, zero_no_nan y k, eqb-true (to_bits binary64 x) 0 h, eqb-true (to_bits binary64 y) 0 k)

zeros_same : same_float z z ≡ true
unfolding same_float is_nan to_bits
zeros_same = refl

-- ---- hazards: a kind, and its own rate, +0.0 for kind 0

abbrev RateCoded : ℕ → Float → Type 0
RateCoded kind rate = (not (eqb kind 0) || zero_bits rate) ≡ true

rates_as : (kind : ℕ) (x y : Float) → ltb kind kinds ≡ true → RateCoded kind x → RateCoded kind y
    → same_float (own_rate (rate_of_kind (byte_from kind) x)) (own_rate (rate_of_kind (byte_from kind) y)) ≡ same_float x y
unfolding own_rate
rates_as zero x y h p q = zeros_same ∙ sym (zero-floats x y p q)
rates_as (suc zero) x y h p q = refl
rates_as (suc (suc zero)) x y h p q = refl
rates_as (suc (suc (suc zero))) x y h p q = refl
rates_as (suc (suc (suc (suc zero)))) x y h p q = refl
rates_as (suc (suc (suc (suc (suc kind))))) x y h p q = absurd (omega (arith, ltb-true (suc (suc (suc (suc (suc kind))))) kinds h))

module _ (k l : ℕ) (x y : Float) (hk : ltb k kinds ≡ true) (hl : ltb l kinds ≡ true) (p : RateCoded k x) (q : RateCoded l y) where
  pub hazard_as : same_hazard (rate_of_kind (byte_from k) x) (rate_of_kind (byte_from l) y) ≡ (eqb k l && same_float x y)
  unfolding same_hazard
  hazard_as =
      rw (kind-number k x hk, kind-number l y hl)
      (by_test (eqb k l)
      (λ e.
      let same : l ≡ k = sym (eqb-true k l e) in
      rw e (rw same (rates_as k x y hk p (rw same at q))))
      (λ e. rw e))
