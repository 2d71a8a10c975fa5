-- Document 01, "A command comes in", "Hazard arithmetic" and "Draws": the floats that it names, and its tests on one float; and those of
-- document 02.
-- Arithmetic is IEEE 754 binary64, round to nearest even (lib.Ieee).
use Rattle.std.specs.Prelude.{Bool, true, false, cond, ◌&&◌, ◌^◌, pos, negsuc, eqb, ltb, Float}
use Rattle.std.specs.Float.{inf, fin, binary64}
use Rattle.std.specs.Float.Ieee.{lt, le, to_bits}

-- +0.0
abbrev pub z : Float
z = fin false 0 (pos 0)

-- 2^40, and its negative
abbrev pub limit : Float
limit = fin false 1 (pos 40)

abbrev pub minus_limit : Float
minus_limit = fin true 1 (pos 40)

-- 2^-40
abbrev pub inverse_limit : Float
inverse_limit = fin false 1 (negsuc 39)

-- 2.0
abbrev pub two : Float
two = fin false 1 (pos 1)

-- 1,024
abbrev pub most_threshold : Float
most_threshold = fin false 1 (pos 10)

-- x.max(0.0), where a negative number, -0.0 and a NaN give +0.0
unfoldable pub not_below_zero : Float → Float
not_below_zero x = cond (lt z x) x z

-- all bits zero
unfoldable pub zero_bits : Float → Bool
zero_bits x = eqb (to_bits binary64 x) 0

-- finite and of size at most 2^40
unfoldable pub in_range : Float → Bool
in_range x = le minus_limit x && le x limit

-- sign bit clear and at most 2^40
unfoldable pub is_time : Float → Bool
is_time x = le x limit && ltb (to_bits binary64 x) (2 ^ 63)

-- finite, not below 0 and not above 1,024
unfoldable pub is_threshold : Float → Bool
is_threshold x = le z x && le x most_threshold

-- at least 0 and not infinite; a NaN is not
unfoldable pub is_finite_wait : Float → Bool
is_finite_wait x = le z x && lt x (inf false)
