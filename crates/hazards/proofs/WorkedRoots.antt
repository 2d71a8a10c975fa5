-- Roots of floats, computed from the definitions: beside powers of two, at both ends of the floats, and of what has none. Then the theorem
-- of change 4, applied.
use mathlib.Core.Path.{◌≡◌, refl}
use mathlib.Core.Bool.{true, false}
use Prim.Native.Nat.{ℕ}
use lib.IntN.{pos}
use lib.Ieee.{Float, nan, inf, fin, binary64, fits, of_bits, to_bits, lt}
use Rattle.hazards.specs.Floats.{z, two}
use Rattle.hazards.specs.FirstPlace.{first_of}
use Rattle.hazards.specs.Roots.{fields_multiple, multiple, square_above, root_pattern, nearest_root, NearestRoot}
use Rattle.hazards.proofs.FloatRoots.{one_nearest}

unfoldable computed : Unit {0}
unfolding fits of_bits to_bits lt fields_multiple multiple square_above first_of root_pattern nearest_root
computed = tt

-- the float of a bit pattern
abbrev bits : ℕ → Float
bits b = of_bits binary64 b

-- ---- beside powers of two

-- the f64 below 1 is its own root
pub worked_below_one : nearest_root (bits 0x3fef_ffff_ffff_ffff) ≡ bits 0x3fef_ffff_ffff_ffff
unfolding computed
worked_below_one = refl

-- the f64 above 1 has the root 1
pub worked_above_one : nearest_root (bits 0x3ff0_0000_0000_0001) ≡ fin false 1 (pos 0)
unfolding computed
worked_above_one = refl

pub worked_two : nearest_root two ≡ bits 0x3ff6_a09e_667f_3bcd
unfolding computed
worked_two = refl

pub worked_four : nearest_root (fin false 1 (pos 2)) ≡ two
unfolding computed
worked_four = refl

-- the f64 below 4 has as its root the f64 below 2
pub worked_below_four : nearest_root (bits 0x400f_ffff_ffff_ffff) ≡ bits 0x3fff_ffff_ffff_ffff
unfolding computed
worked_below_four = refl

-- ---- both ends

-- 2^-1074, the smallest f64 above 0: 2^-537
pub worked_smallest : nearest_root (bits 1) ≡ bits 0x1e60_0000_0000_0000
unfolding computed
worked_smallest = refl

-- the largest subnormal: the f64 below 2^-511
pub worked_subnormal : nearest_root (bits 0x000f_ffff_ffff_ffff) ≡ bits 0x1fff_ffff_ffff_ffff
unfolding computed
worked_subnormal = refl

-- the largest finite f64: the f64 below 2^512
pub worked_largest : nearest_root (bits 0x7fef_ffff_ffff_ffff) ≡ bits 0x5fef_ffff_ffff_ffff
unfolding computed
worked_largest = refl

pub worked_infinity : nearest_root (inf false) ≡ inf false
unfolding computed
worked_infinity = refl

-- ---- not above 0: +0.0

pub worked_negative : nearest_root (fin true 1 (pos 0)) ≡ z
unfolding computed
worked_negative = refl

pub worked_minus_zero : nearest_root (fin true 0 (pos 0)) ≡ z
unfolding computed
worked_minus_zero = refl

pub worked_minus_infinity : nearest_root (inf true) ≡ z
unfolding computed
worked_minus_infinity = refl

pub worked_nan : nearest_root nan ≡ z
unfolding computed
worked_nan = refl

-- ---- the theorem, applied

pub applied_two : NearestRoot two (bits 0x3ff6_a09e_667f_3bcd)
unfolding computed
applied_two = (one_nearest two (bits 0x3ff6_a09e_667f_3bcd) tt refl refl).1 refl

pub applied_only_two : (s : Float) → NearestRoot two s → s ≡ nearest_root two
unfolding computed
applied_only_two s = (one_nearest two s tt refl refl).0
