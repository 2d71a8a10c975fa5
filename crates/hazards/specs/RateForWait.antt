-- Document 02, change 11, "What rate would fail on that day?": from a threshold w above 0 and at most 1,024 and a wait from 2^-40 to
-- 2^40, the smallest positive f64 rate, at most 2^40, for which w / rate rounds to exactly the wait. Document 02 calls the wait T; here
-- T b says that a test b holds.
use Rattle.std.specs.Prelude.{◌≡◌, ◌↔◌, Bool, true, false, ◌&&◌, ℕ, T, Float, Result, Ok, Err}
use Rattle.std.specs.Float.{binary64}
use Rattle.std.specs.Float.Ieee.{fits, div, lt, le}
use Rattle.hazards.specs.Floats.{z, limit, inverse_limit, most_threshold, in_range}
use Rattle.hazards.specs.Refusals.{number, outside_limits, no_rate}
use Rattle.hazards.specs.Rates.{invert_cumulative_hazard, some_wait}
use Rattle.hazards.specs.declared.rates.HazardRate.TheVariants.{Constant}
use Rattle.hazards.specs.declared.rates.Intervals.{Intervals}
use Rattle.hazards.specs.declared.refusals.Refusal.{Refusal}

-- "a threshold w above 0 and at most 1,024 and a wait T from 2^-40 to 2^40"
unfoldable pub within_limits : Float → Float → Bool
within_limits w wait = (lt z w && le w most_threshold) && (le inverse_limit wait && le wait limit)

-- "positive f64 rate, at most 2^40, for which w / rate rounds to exactly T"
pub record Gives (w wait rate : Float) : Type 0 where
  pub is_f64 : T (fits binary64 rate)
  pub is_positive : T (lt z rate)
  pub at_most : T (le rate limit)
  pub exactly : div binary64 w rate ≡ wait

-- number 0 and the rate, or 23 or 24 and 0.0
pub record RateForWait : Type 0 where
  pub number : ℕ
  pub rate : Float

-- a number, and the rate: 0.0 where there is none
abbrev pub answered : ℕ → Float → RateForWait
answered number rate = record { number = number; rate = rate }

-- what is answered to a threshold and a wait
pub data Answers (w wait : Float) : RateForWait → Type 0 where
  -- "the smallest" of them
  smallest : (rate : Float) → within_limits w wait ≡ true → Gives w wait rate → ((other : Float) → Gives w wait other → T (le rate other))
      → Answers w wait (answered 0 rate)
  -- "None … only when no f64 in that range does it"
  none : within_limits w wait ≡ true → ((rate : Float) → Gives w wait rate → ⊥) → Answers w wait (answered no_rate z)
  -- "A w or T outside these limits is refused"
  outside : within_limits w wait ≡ false → Answers w wait (answered outside_limits z)

-- what the call returns, read so
abbrev pub rate_answer : Result Float Refusal → RateForWait
rate_answer (Ok rate) = answered 0 rate
rate_answer (Err refusal) = answered (number refusal) z

-- ---- what follows of it

-- one answer alone is right
abbrev pub OneAnswer : Type 0
OneAnswer = (w wait : Float) (a b : RateForWait) → Answers w wait a → Answers w wait b → a ≡ b

-- Within the limits the rates that give the wait are the constant rates that SET takes and with which a cause that has this threshold to
-- use up waits so long, from any start.
pub record WaitsExactly (w wait rate : Float) : Type 0 where
  pub is_f64 : T (fits binary64 rate)
  pub in_limits : T (in_range rate)
  pub waits : (pairs : Intervals) (start : Float) → invert_cumulative_hazard (Constant rate) pairs start w ≡ some_wait wait 0

abbrev pub ConstantHazard : Type 0
ConstantHazard = (w wait rate : Float) → within_limits w wait ≡ true → Gives w wait rate ↔ WaitsExactly w wait rate
