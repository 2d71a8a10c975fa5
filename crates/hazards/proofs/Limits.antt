-- The documents' limits as bounds: times and rates up to 2^40, and where sums and products land. The bounds on pieces and ages leave room
-- for document 02's: rates to 2^48 and ends to 2^43 (change 9), ages to 2^200 (change 7).
use mathlib.Core.Path.{refl}
use mathlib.Core.Bool.{true, false, not}
use Prim.Native.Nat.{ℕ, ◌+◌, ◌-◌, ◌*◌, ◌/◌, ◌^◌, ◌≤◌}
use native.Mathlib.Nat.{not-le_of_lt, le_trans, le-add_right}
use lib.IntN.{ℤ}
use lib.Dec.{T, ltb, ltb→lt, lit≤}
use lib.Ieee.{Float, nan, inf, fin, binary64, up, down, size, round, to_bits, le}
use lib.Ieee.Fits.{and_l, and_r}
use Rattle.hazards.specs.Floats.{z, limit, minus_limit, inverse_limit, two, not_below_zero, in_range, is_time}
use Rattle.hazards.proofs.Bounds.{Upto, largest}
use Rattle.hazards.proofs.Upto.{lands}
use Rattle.hazards.proofs.UptoOrder.{upto_le}
use Rattle.hazards.proofs.UptoClamped.{clamped_below, positive_upto}

pub limit_upto : Upto (2 ^ 40) limit
limit_upto = record { holds = tt }

pub inverse_limit_upto : Upto 1 inverse_limit
inverse_limit_upto = record { holds = tt }

pub two_upto : Upto 2 two
two_upto = record { holds = tt }

-- ---- what a test on one float tells

-- a rate, clamped at 0
pub rate_upto : (x : Float) → T (in_range x) → Upto (2 ^ 40) (not_below_zero x)
unfolding in_range
rate_upto x h = clamped_below x (and_r (le minus_limit x) (le x limit) h) limit_upto

-- a rate that is not at most 0
pub positive_rate_upto : (x : Float) → T (not (le x z)) → T (in_range x) → Upto (2 ^ 40) x
unfolding in_range
positive_rate_upto x n h = positive_upto x n (and_r (le minus_limit x) (le x limit) h) limit_upto

-- a sign bit that is set counts 2^63
sign_set : (m : ℕ) (e : ℤ) → 2 ^ 63 ≤ to_bits binary64 (fin true m e)
unfolding to_bits
sign_set m e =
    let n = m * up e * 2 ^ 1074 / down e in
    let k = size n - 53 in
    le_trans (le-add_right (2 ^ 63) (k * 2 ^ 52)) (le-add_right (2 ^ 63 + k * 2 ^ 52) (n / 2 ^ k))

pub time_upto : (x : Float) → T (is_time x) → Upto (2 ^ 40) x
unfolding is_time
time_upto nan h = absurd (unfold le in h)
time_upto (inf true) h = absurd (unfold le to_bits in h)
time_upto (inf false) h = absurd (unfold le in h)
time_upto (fin true m e) h =
    let clear = ltb (to_bits binary64 (fin true m e)) (2 ^ 63) in
    absurd (not-le_of_lt (ltb→lt (to_bits binary64 (fin true m e)) (2 ^ 63) (and_r (le (fin true m e) limit) clear h)) (sign_set m e))
time_upto (fin false m e) h =
    let clear = ltb (to_bits binary64 (fin false m e)) (2 ^ 63) in
    upto_le (fin false m e) refl (and_l (le (fin false m e) limit) clear h) limit_upto

-- ---- where sums and products of the bounds land, computed
pub time_stays : T (lands (2 ^ 40) (2 ^ 40))
unfolding lands round
time_stays = tt

pub largest_stays : T (lands largest largest)
unfolding lands round
largest_stays = tt

-- the span of a piece, and a rate times it
pub span_lands : T (lands (2 ^ 43) (2 ^ 43))
unfolding lands round
span_lands = tt

pub capacity_lands : T (lands (2 ^ 48 * 2 ^ 43) (2 ^ 91))
unfolding lands round
capacity_lands = tt

-- no rate times it
pub nothing_lands : T (lands (0 * 2 ^ 43) 0)
unfolding lands round
nothing_lands = tt

-- 2 / scale
pub slope_lands : T (lands (2 * 2 ^ 40) (2 ^ 41))
unfolding lands round
slope_lands = tt

-- ---- ages up to a, and cumulative hazards up to c

pub record Room (a c : ℕ) : Type 0 where
  pub ages : T (lands a a)
  -- an age in scales, its square, and its product with a slope
  pub scaled : T (lands (a * 2 ^ 40) (a * 2 ^ 40))
  pub squared : T (lands (a * 2 ^ 40 * (a * 2 ^ 40)) c)
  pub sloped : T (lands (2 ^ 41 * (a * 2 ^ 40)) (2 ^ 81 * a))
  pub rates : 2 ^ 48 ≤ 2 ^ 81 * a
  -- a rate times an age; c keeps its place when that is added, however often
  pub products : T (lands (2 ^ 48 * a) (2 ^ 48 * a))
  pub single : 2 ^ 48 * a ≤ c
  pub pieces : T (lands (c + 2 ^ 48 * a) c)
  -- and so does the largest value when c is added
  pub accumulated : T (lands (largest + c) largest)

-- times
pub times : Room (2 ^ 40) (2 ^ 160)
unfolding lands round
times = record {
  ages = tt;
  scaled = tt;
  squared = tt;
  sloped = tt;
  rates = lit≤ tt;
  products = tt;
  single = lit≤ tt;
  pieces = tt;
  accumulated = tt;
}

-- ages that grow over many intervals
pub long_ages : Room (2 ^ 200) (2 ^ 480)
unfolding lands round
long_ages = record {
  ages = tt;
  scaled = tt;
  squared = tt;
  sloped = tt;
  rates = lit≤ tt;
  products = tt;
  single = lit≤ tt;
  pieces = tt;
  accumulated = tt;
}

-- a time and a finite wait from it
pub time_lands : T (lands (2 ^ 40) largest)
unfolding lands round
time_lands = tt

pub later_lands : T (lands (2 ^ 40 + largest) largest)
unfolding lands round
later_lands = tt
