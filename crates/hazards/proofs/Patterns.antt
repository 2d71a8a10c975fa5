-- NaN patterns, the NaN that they all read as, and floats that are none.
-- Assumes nothing.
use mathlib.Core.Path.{◌≡◌, refl, sym, ◌∙◌, subst}
use mathlib.Core.Bool.{Bool, true, false, not, true≢false}
use Prim.Native.Nat.{ℕ, ◌%◌, ◌^◌, ◌<◌, ◌≤◌}
use lib.Dec.{T}
use borrow.Author.Tests.{lt-ltb, le-ltb}
use lib.Ieee.{Float, nan, inf, fin, div, lt, le, ne, of_bits, to_bits, nan_bits, is_nan, binary64}
use lib.Ieee.Bits.{nan_bits_is, nan_bits_above}
use lib.Ieee.Compare.{differs_from_itself, nan_differs}

pub is_nan_lem : (x : Float) → is_nan x ≡ true → x ≡ nan
unfolding is_nan
is_nan_lem nan h = refl
is_nan_lem (inf s) h = absurd (subst (λ (b : Bool). T (not b)) h tt)
is_nan_lem (fin s m e) h = absurd (subst (λ (b : Bool). T (not b)) h tt)

pub nan_pattern : (b : ℕ) → 0x7ff0_0000_0000_0000 < b % 2 ^ 63 → of_bits binary64 b ≡ nan
nan_pattern b h =
    is_nan_lem (of_bits binary64 b) (sym (nan_bits_is binary64 b) ∙ nan_bits_above binary64 b ∙ lt-ltb 0x7ff0_0000_0000_0000 (b % 2 ^ 63) h)

pub number_pattern : (b : ℕ) → b % 2 ^ 63 ≤ 0x7ff0_0000_0000_0000 → T (not (nan_bits binary64 b))
number_pattern b h =
    subst (λ (t : Bool). T (not t)) (sym (nan_bits_above binary64 b ∙ le-ltb 0x7ff0_0000_0000_0000 (b % 2 ^ 63) h)) tt

pub zero_over_zero : div binary64 (of_bits binary64 0) (of_bits binary64 0) ≡ nan
unfolding div of_bits
zero_over_zero = refl

-- ---- `x != x`
pub differs : (x : Float) → ne x x ≡ true → x ≡ nan
differs x t = differs_from_itself x (subst T (sym t) tt)

pub same_no_nan : (x : Float) → ne x x ≡ false → T (not (is_nan x))
unfolding is_nan
same_no_nan nan t = absurd (subst T (sym nan_differs ∙ t) tt)
same_no_nan (inf s) t = tt
same_no_nan (fin s m e) t = tt

pub nan-bits : to_bits binary64 nan ≡ 0x7ff8_0000_0000_0000
unfolding to_bits
nan-bits = refl

-- ---- what is above something, or at least something, is a number
pub above_number : (x y : Float) → lt x y ≡ true → T (not (is_nan y))
unfolding lt is_nan
above_number nan y h = absurd (true≢false (sym h))
above_number (inf s) nan h = absurd (true≢false (sym h))
above_number (fin s m e) nan h = absurd (true≢false (sym h))
above_number (inf s) (inf t) h = tt
above_number (inf s) (fin t n d) h = tt
above_number (fin s m e) (inf t) h = tt
above_number (fin s m e) (fin t n d) h = tt

pub at_least_number : (x y : Float) → le x y ≡ true → T (not (is_nan y))
unfolding le is_nan
at_least_number nan y h = absurd (true≢false (sym h))
at_least_number (inf s) nan h = absurd (true≢false (sym h))
at_least_number (fin s m e) nan h = absurd (true≢false (sym h))
at_least_number (inf s) (inf t) h = tt
at_least_number (inf s) (fin t n d) h = tt
at_least_number (fin s m e) (inf t) h = tt
at_least_number (fin s m e) (fin t n d) h = tt
