-- The rate for a wait, computed from the definitions: document 02's example, a rate beside the f64 nearest to the quotient, none between
-- two neighbours, subnormal rates, both ends of the rates, and what is outside the limits. Then the two theorems of change 11, applied.
use mathlib.Core.Path.{◌≡◌, refl}
use mathlib.Core.Bool.{true, false}
use Prim.Native.Nat.{ℕ, ◌+◌}
use lib.IntN.{pos, negsuc}
use lib.Dec.{T, ltb, lit<, lit≤}
use lib.Ieee.{Float, nan, inf, fin, binary64, fits, of_bits, div, lt, le, eq}
use Rattle.hazards.specs.Floats.{z, two, limit, inverse_limit, most_threshold}
use Rattle.hazards.specs.Refusals.{outside_limits, no_rate}
use Rattle.hazards.specs.Rates.{invert_cumulative_hazard, some_wait}
use Rattle.hazards.specs.FirstPlace.{FirstPlace}
use Rattle.hazards.specs.RateForWait.{within_limits, answered, Answers, WaitsExactly}
use Rattle.hazards.specs.RateForWait.Answers.{outside}
use Rattle.hazards.specs.RateForWaitInternals.{past_limit, used_up_within}
use Rattle.hazards.specs.declared.rates.HazardRate.TheVariants.{Constant}
use Rattle.hazards.specs.declared.rates.Intervals.{Intervals}
use Rattle.hazards.specs.RateForWait.{RateForWait}
use Rattle.hazards.proofs.Bisection.{at_step, at_start, at_none}
use Rattle.hazards.proofs.RateForWait.{goes_on, first_answers, none_answers, past_answers}
use Rattle.hazards.proofs.RateForWait.{answer_gives, answer_none, one_answer}
use Rattle.hazards.proofs.ConstantWaits.{constant_hazard}
use Rattle.hazards.proofs.WorkedLists.{one, four}

unfoldable computed : Unit {0}
unfolding fits of_bits div lt le eq within_limits used_up_within
computed = tt

-- ---- the floats

abbrev five : Float
five = fin false 5 (pos 0)

abbrev forty_nine : Float
forty_nine = fin false 49 (pos 0)

-- n times 2^-1074, the smallest f64 above 0
abbrev tiny : ℕ → Float
tiny n = of_bits binary64 n

-- ---- two neighbouring patterns part the quotients above the wait from those that are not

-- the rate behind the pattern `place`
module _ (w wait : Float) (place : ℕ) (l : within_limits w wait ≡ true) (f : T (fits binary64 wait)) (b : T (ltb 0 place))
    (h : T (ltb (place + 1) past_limit)) (above : used_up_within w wait place ≡ false) (not : used_up_within w wait (place + 1) ≡ true) where
  first : FirstPlace (used_up_within w wait) 1 past_limit (place + 1)
  first = at_step (goes_on w wait l) (lit< b) (lit< h) above not

  rate_behind : eq (div binary64 w (of_bits binary64 (place + 1))) wait ≡ true
      → Answers w wait (answered 0 (of_bits binary64 (place + 1)))
  rate_behind e = first_answers w wait l first (lit< h) f e

  none_behind : eq (div binary64 w (of_bits binary64 (place + 1))) wait ≡ false → Answers w wait (answered no_rate z)
  none_behind e = none_answers w wait l first (lit< h) f e

-- ---- document 02's example: 2.0 and 4.0 give 0.5

pub worked_half : Answers two four (answered 0 (fin false 1 (negsuc 0)))
unfolding computed
worked_half = rate_behind two four 0x3fdf_ffff_ffff_ffff refl tt tt tt refl refl refl

-- ---- 1 and 5 give 0.19999999999999998, the f64 before the one nearest to 1 / 5, which gives 5 too

pub worked_fifth : Answers one five (answered 0 (of_bits binary64 0x3fc9_9999_9999_9999))
unfolding computed
worked_fifth = rate_behind one five 0x3fc9_9999_9999_9998 refl tt tt tt refl refl refl

nearest_fifth : of_bits binary64 0x3fc9_9999_9999_999a ≡ div binary64 one five
unfolding computed
nearest_fifth = refl

fifth_gives : div binary64 one (of_bits binary64 0x3fc9_9999_9999_999a) ≡ five
unfolding computed
fifth_gives = refl

-- ---- 1 and 49: the quotients pass from above 49 to below it

pub worked_none : Answers one forty_nine (answered no_rate z)
unfolding computed
worked_none = none_behind one forty_nine 0x3f94_e5e0_a72f_0539 refl tt tt tt refl refl refl

-- ---- subnormal rates: 2 * 2^-1074 and 2 give 2^-1074, 2^-1074 and 2 none, nor does the f64 below 2^-1021

pub worked_subnormal : Answers (tiny 2) two (answered 0 (tiny 1))
unfolding computed
worked_subnormal =
    let l : within_limits (tiny 2) two ≡ true = refl in
    first_answers (tiny 2) two l (at_start (lit< tt) refl) (lit< tt) tt refl

pub worked_below_subnormal : Answers (tiny 1) two (answered no_rate z)
unfolding computed
worked_below_subnormal =
    let l : within_limits (tiny 1) two ≡ true = refl in
    none_answers (tiny 1) two l (at_start (lit< tt) refl) (lit< tt) tt refl

pub worked_between_subnormals : Answers (of_bits binary64 0x001f_ffff_ffff_ffff) two (answered no_rate z)
unfolding computed
worked_between_subnormals =
    none_behind (of_bits binary64 0x001f_ffff_ffff_ffff) two 0x000f_ffff_ffff_ffff refl tt tt tt refl refl refl

-- ---- the largest rate: 1 and 2^-40 give 2^40, 1,024 and 2^-40 none, for 2^50 is too large

pub worked_largest : Answers one inverse_limit (answered 0 limit)
unfolding computed
worked_largest = rate_behind one inverse_limit 0x426f_ffff_ffff_ffff refl tt tt tt refl refl refl

pub worked_too_large : Answers most_threshold inverse_limit (answered no_rate z)
unfolding computed
worked_too_large =
    let l : within_limits most_threshold inverse_limit ≡ true = refl in
    past_answers most_threshold inverse_limit l
    (at_none {place = 0x4270_0000_0000_0000} (goes_on most_threshold inverse_limit l) (lit≤ tt) refl refl) refl

-- ---- outside the limits: 0, -0.0 and -1; just above 1,024; just below 2^-40; just above 2^40; infinity and NaN

abbrev Refused : Float → Float → Type 0
Refused w wait = Answers w wait (answered outside_limits z)

pub worked_no_threshold : Refused z two × Refused (fin true 0 (pos 0)) two × Refused (fin true 1 (pos 0)) two
unfolding computed
worked_no_threshold = (outside refl, outside refl, outside refl)

pub worked_large_threshold : (within_limits most_threshold two ≡ true) × Refused (of_bits binary64 0x4090_0000_0000_0001) two
    × Refused (inf false) two
unfolding computed
worked_large_threshold = (refl, outside refl, outside refl)

pub worked_short_wait : (within_limits one inverse_limit ≡ true) × Refused one (of_bits binary64 0x3d6f_ffff_ffff_ffff) × Refused one z
unfolding computed
worked_short_wait = (refl, outside refl, outside refl)

pub worked_long_wait : (within_limits one limit ≡ true) × Refused one (of_bits binary64 0x4270_0000_0000_0001) × Refused one (inf false)
unfolding computed
worked_long_wait = (refl, outside refl, outside refl)

pub worked_no_number : Refused nan two × Refused one nan
unfolding computed
worked_no_number = (outside refl, outside refl)

-- ---- the theorems, applied

one_fifth : (a : RateForWait) → Answers one five a → a ≡ answered 0 (of_bits binary64 0x3fc9_9999_9999_9999)
one_fifth a h = one_answer one five a (answered 0 (of_bits binary64 0x3fc9_9999_9999_9999)) h worked_fifth

-- with that rate a cause waits 5 for a threshold of 1, from any start
waits_five : (pairs : Intervals) (start : Float)
    → invert_cumulative_hazard (Constant (of_bits binary64 0x3fc9_9999_9999_9999)) pairs start one ≡ some_wait five 0
unfolding computed
waits_five =
    let a = answered 0 (of_bits binary64 0x3fc9_9999_9999_9999) in
    ((constant_hazard one five a.rate refl).0 (answer_gives one five a worked_fifth refl)).waits

-- and with no constant rate 49
none_waits : (rate : Float) → WaitsExactly one forty_nine rate → ⊥
unfolding computed
none_waits rate h =
    answer_none one forty_nine (answered no_rate z) worked_none refl rate ((constant_hazard one forty_nine rate refl).1 h)
