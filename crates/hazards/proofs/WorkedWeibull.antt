-- Kind 4, computed from the definitions: its refusals, the order of its operations, what counts as +0.0, and where the wait would fall
-- below 0. Beside each value that another order of operations would miss stands that order's.
use mathlib.Core.Path.{◌≡◌, refl}
use mathlib.Core.Bool.{true, false}
use mathlib.Core.List.{◌∷◌}
use Prim.Native.Nat.{ℕ}
use lib.IntN.{pos, negsuc}
use lib.ListN.{replicate}
use lib.Ieee.{Float, nan, inf, fin, binary64, add, sub, mul, div, lt, le, of_bits, to_bits}
use Rattle.std.specs.Prelude.{Option, None}
use Rattle.hazards.specs.Floats.{z, two, limit, inverse_limit, not_below_zero, zero_bits, in_range}
use Rattle.hazards.specs.Lists.{all}
use Rattle.hazards.specs.FirstPlace.{first_of}
use Rattle.hazards.specs.Roots.{fields_multiple, multiple, square_above, root_pattern, nearest_root}
use Rattle.hazards.specs.Rates.{pieces_by, weibull_hazard, weibull_cumulative, weibull_wait, hazard_of_rate, hazard_at, cumulative_of_rate}
use Rattle.hazards.specs.Rates.{cumulative_hazard, wait_of_rate, invert_cumulative_hazard, some_wait}
use Rattle.hazards.specs.Checks.{range_fault, intervals_fault, choice_fault, hazard_faults}
use Rattle.hazards.specs.Refusals.{number_of}
use Rattle.hazards.specs.declared.rates.HazardRate.TheVariants.{Weibull}
use Rattle.hazards.specs.declared.rates.Intervals.{Intervals}
use Rattle.hazards.specs.declared.rates.Wait.{Wait}

unfoldable computed : Unit {0}
unfolding add sub mul div lt le of_bits to_bits not_below_zero zero_bits in_range all pieces_by
    fields_multiple multiple square_above first_of root_pattern nearest_root
    weibull_hazard weibull_cumulative weibull_wait hazard_of_rate hazard_at cumulative_of_rate cumulative_hazard wait_of_rate invert_cumulative_hazard
    range_fault intervals_fault choice_fault hazard_faults
computed = tt

-- ---- the floats, and the three evaluations of kind 4

abbrev bits : ℕ → Float
bits b = of_bits binary64 b

-- n.0 and -n.0
abbrev whole : ℕ → Float
whole n = fin false n (pos 0)

abbrev negative : ℕ → Float
negative n = fin true n (pos 0)

abbrev pairs : Intervals
pairs = record { ends = replicate 8 z; rates = replicate 8 z; count = 0 }

abbrev hazard : Float → Float → Float
hazard scale t = hazard_at (Weibull scale) pairs t

abbrev cumulative : Float → Float → Float
cumulative scale t = cumulative_hazard (Weibull scale) pairs t

abbrev wait : Float → Float → Float → Option Wait
wait scale start w = invert_cumulative_hazard (Weibull scale) pairs start w

-- ---- refusals: the number of a kind's fields with no pairs

abbrev number : ℕ → Float → ℕ
number kind first =
    number_of (hazard_faults (record { kind = kind; first = first; count = 0; ends = replicate 8 z; rates = replicate 8 z }))

-- 2^-40 is accepted, the f64 below it is refused by 5
pub worked_smallest_scale : (number 4 inverse_limit ≡ 0) × (number 4 (bits 0x3d6f_ffff_ffff_ffff) ≡ 5) × (number 4 (bits 1) ≡ 5)
unfolding computed
worked_smallest_scale = (refl, refl, refl)

-- 2^40 is accepted, the f64 above it, the infinities and a NaN are refused by 5
pub worked_largest_scale : (number 4 limit ≡ 0) × (number 4 (bits 0x4270_0000_0000_0001) ≡ 5) × (number 4 (inf false) ≡ 5)
    × (number 4 (inf true) ≡ 5) × (number 4 nan ≡ 5)
unfolding computed
worked_largest_scale = (refl, refl, refl, refl, refl)

-- a scale at most 0 is accepted
pub worked_no_scale : (number 4 z ≡ 0) × (number 4 (negative 0) ≡ 0) × (number 4 (bits 0x8000_0000_0000_0001) ≡ 0)
    × (number 4 (fin true 1 (pos 40)) ≡ 0)
unfolding computed
worked_no_scale = (refl, refl, refl, refl)

-- a count, and a pair with a bit set, are refused by 6; 5 comes first
abbrev number_with : Float → ℕ → Float → ℕ
number_with scale count end =
    number_of (hazard_faults (record { kind = 4; first = scale; count = count; ends = end ∷ replicate 7 z; rates = replicate 8 z }))

pub worked_unused : (number_with (whole 3) 1 z ≡ 6) × (number_with (whole 3) 0 (negative 0) ≡ 6) × (number_with (bits 1) 1 z ≡ 5)
unfolding computed
worked_unused = (refl, refl, refl)

-- and there is no kind 5
pub worked_no_kind : number 5 (whole 1) ≡ 4
unfolding computed
worked_no_kind = refl

-- ---- the order of operations

-- (2 / scale) * q, not 2 * q / scale
pub worked_hazard : (hazard (whole 3) (whole 13) ≡ bits 0x4007_1c71_c71c_71c6)
    × (div binary64 (mul binary64 two (div binary64 (whole 13) (whole 3))) (whole 3) ≡ bits 0x4007_1c71_c71c_71c7)
unfolding computed
worked_hazard = (refl, refl)

-- nor 2 * t / (scale * scale)
pub worked_hazard_squared : (hazard (whole 3) (whole 11) ≡ bits 0x4003_8e38_e38e_38e3)
    × (div binary64 (mul binary64 two (whole 11)) (mul binary64 (whole 3) (whole 3)) ≡ bits 0x4003_8e38_e38e_38e4)
unfolding computed
worked_hazard_squared = (refl, refl)

-- q * q, not t * t / (scale * scale)
pub worked_cumulative : (cumulative (whole 3) (whole 5) ≡ bits 0x4006_38e3_8e38_e38f)
    × (div binary64 (mul binary64 (whole 5) (whole 5)) (mul binary64 (whole 3) (whole 3)) ≡ bits 0x4006_38e3_8e38_e38e)
unfolding computed
worked_cumulative = (refl, refl)

-- scale * s - start, not scale * (s - q)
pub worked_wait : (wait (whole 3) (whole 3) (whole 1) ≡ some_wait (bits 0x3ff3_e1db_337d_b368) 0)
    × (mul binary64 (whole 3) (sub binary64 (nearest_root two) (whole 1)) ≡ bits 0x3ff3_e1db_337d_b367)
unfolding computed
worked_wait = (refl, refl)

-- ---- a time or start at most 0 counts as +0.0, in the subtraction too

pub worked_before : (hazard (whole 3) (negative 0) ≡ z) × (hazard (whole 3) (negative 1) ≡ z) × (cumulative (whole 3) (negative 0) ≡ z)
    × (cumulative (whole 3) (negative 1) ≡ z)
unfolding computed
worked_before = (refl, refl, refl, refl)

pub worked_negative_start : wait (whole 1) (negative 1) (whole 1) ≡ some_wait (whole 1) 0
unfolding computed
worked_negative_start = refl

-- ---- a scale at most 0 is Zero; a w at most 0 waits 0.0 first of all

pub worked_zero : (hazard (negative 2) (whole 3) ≡ z) × (cumulative z (whole 3) ≡ z) × (wait (negative 0) z (whole 1) ≡ None)
unfolding computed
worked_zero = (refl, refl, refl)

pub worked_nothing : (wait (negative 2) z z ≡ some_wait z 0) × (wait (whole 2) (whole 3) (negative 1) ≡ some_wait z 0)
unfolding computed
worked_nothing = (refl, refl)

-- ---- not below 0

-- scale 11, start 15, w 2^-60: 11 times the root is 2^-49 below the start
pub worked_not_below : (wait (whole 11) (whole 15) (fin false 1 (negsuc 59)) ≡ some_wait z 0)
    × (sub binary64 (mul binary64 (whole 11) (nearest_root (add binary64 (cumulative (whole 11) (whole 15)) (fin false 1 (negsuc 59))))) (whole 15)
    ≡ fin true 1 (negsuc 48))
unfolding computed
worked_not_below = (refl, refl)

-- 2^80 + 1 rounds to 2^80, whose root is the start
pub worked_far : wait (whole 1) limit (whole 1) ≡ some_wait z 0
unfolding computed
worked_far = refl

-- ---- an infinite sum waits for ever, and that is no candidate

pub worked_infinite : wait (whole 1) (whole 1) (inf false) ≡ some_wait (inf false) 0
unfolding computed
worked_infinite = refl
