-- How large the floats are within document 01's limits: values that are finite, have a clear sign and are at most a whole number.
use mathlib.Core.Bool.{Bool, true, false}
use Prim.Native.Nat.{ℕ, ◌-◌, ◌*◌, ◌^◌}
use lib.Dec.{T, leb}
use lib.Ieee.{Float, nan, inf, fin, up, down}

-- finite, sign clear and at most b
abbrev pub upto : ℕ → Float → Bool
upto b nan = false
upto b (inf s) = false
upto b (fin true m e) = false
upto b (fin false m e) = leb (m * up e) (b * down e)

-- the same as a record, so that a law finds b and x by itself
pub record Upto (b : ℕ) (x : Float) : Type 0 where
  pub holds : T (upto b x)

-- the largest finite value
abbrev pub largest : ℕ
largest = 2 ^ 1024 - 2 ^ 971
