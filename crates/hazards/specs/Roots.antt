-- Document 02, change 4: "the f64 nearest to the root", "infinite for an infinite sum". "Nearest is stated by whole numbers: the squares
-- of the halfway points to both neighbours of s lie on either side of that sum."
use Rattle.std.specs.Prelude.{◌≡◌, ◌↔◌, Bool, true, false, cond, ℕ, zero, suc, ◌+◌, ◌-◌, ◌*◌, ◌/◌, ◌%◌, ◌^◌, ◌<◌, T, ltb, Float}
use Rattle.std.specs.Float.{inf, binary64}
use Rattle.std.specs.Float.Ieee.{fits, of_bits, to_bits, lt}
use Rattle.hazards.specs.Floats.{z}
use Rattle.hazards.specs.FirstPlace.{first_of}

-- ---- the values of bit patterns, as IEEE 754 gives them

-- how many times 2^-1074, the smallest f64 above 0, the exponent's field and the digits stand for
unfoldable pub fields_multiple : ℕ → ℕ → ℕ
fields_multiple zero t = t
fields_multiple (suc k) t = (2 ^ 52 + t) * 2 ^ k

-- and a bit pattern with the sign clear; that this is the value that lib.Ieee gives it is a law, `multiple_value` of PatternValues
unfoldable pub multiple : ℕ → ℕ
multiple b = fields_multiple (b / 2 ^ 52) (b % 2 ^ 52)

-- twice the halfway point from the value of the pattern c to that of the next: their sum
abbrev pub twice_halfway : ℕ → ℕ
twice_halfway c = multiple c + multiple (c + 1)

-- ---- the f64 nearest to a root

-- A halfway point is h / 2 times 2^-1074 and its square h * h / 4 times 2^-2148; the value of the pattern b is multiple b times 2^-1074.
-- Both are counted here in quarters of 2^-2148.
abbrev pub quarters : ℕ → ℕ
quarters b = 4 * (multiple b * 2 ^ 1074)

abbrev pub halfway_square : ℕ → ℕ
halfway_square c = twice_halfway c * twice_halfway c

-- the value of the pattern c is nearest to the root of that of b; 0, which has no neighbour below, is nearest to none
pub record NearestPattern (b c : ℕ) : Type 0 where
  pub below : halfway_square (c - 1) < quarters b
  pub above : quarters b < halfway_square c

-- s is an f64, and the nearest to the root of x
pub record NearestRoot (x s : Float) : Type 0 where
  pub is_f64 : T (fits binary64 s)
  pub nearest : NearestPattern (to_bits binary64 x) (to_bits binary64 s)

-- ---- the same as a number that can be computed

-- the square of the halfway point from c to the next is above the value of b
unfoldable pub square_above : ℕ → ℕ → Bool
square_above b c = ltb (quarters b) (halfway_square c)

-- the first such pattern of the 2^63 with the sign clear
unfoldable pub root_pattern : ℕ → ℕ
root_pattern b = first_of (square_above b) 63 0

-- the root of x; infinite where x is, +0.0 where x is not above 0
unfoldable pub nearest_root : Float → Float
nearest_root x = cond (lt z x) (cond (lt x (inf false)) (of_bits binary64 (root_pattern (to_bits binary64 x))) x) z

-- ---- what is proved of it: for every f64 above 0 that is not infinite one f64 is the nearest to its root, and that is this one

abbrev pub OneNearest : Type 0
OneNearest = (x s : Float) → T (fits binary64 x) → lt z x ≡ true → lt x (inf false) ≡ true → NearestRoot x s ↔ (s ≡ nearest_root x)
