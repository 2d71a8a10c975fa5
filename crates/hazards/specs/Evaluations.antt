-- Document 01, "Hazard arithmetic": the three evaluations as public calls on the fields of a hazard as in SET. They refuse by 4,
-- 5 and 6 on the hazard, and by 5 on a time or w that is NaN, infinite or above 2^40 in size.
-- What they evaluate, operation by operation, is in Rates. Document 02, change 6: the inversion gives the piece with the wait.
use Rattle.std.specs.Prelude.{Bool, true, false, cond, ◌&&◌, ℕ, eqb, Float, Option, None, Some, Result, Ok, Err}
use Rattle.hazards.specs.Floats.{z, in_range}
use Rattle.hazards.specs.Refusals.{number, joined, range_fault_unless, number_of}
use Rattle.hazards.specs.Checks.{hazard_faults, hazard_of, intervals_of}
use Rattle.hazards.specs.Rates.{hazard_at, cumulative_hazard, invert_cumulative_hazard}
use Rattle.hazards.specs.declared.checks.HazardFields.{HazardFields}
use Rattle.hazards.specs.declared.rates.Wait.{Wait}
use Rattle.hazards.specs.declared.refusals.Refusal.{Refusal}

-- `found` is false on a refusal
pub record Evaluation : Type 0 where
  pub number : ℕ
  pub found : Bool
  pub value : Float

-- `found` is false on a refusal and where there is no wait
pub record Inversion : Type 0 where
  pub number : ℕ
  pub found : Bool
  pub wait : Float
  pub piece : ℕ

-- a value
abbrev pub valued : Float → Evaluation
valued x = record { number = 0; found = true; value = x }

-- a refusal with its number; zero elsewhere
abbrev pub without_value : ℕ → Evaluation
without_value n = record { number = n; found = false; value = z }

-- no wait (number 0), or a refusal with its number; zero elsewhere
abbrev pub without_wait : ℕ → Inversion
without_wait n = record { number = n; found = false; wait = z; piece = 0 }

-- the piece as it is: an answer has 255 for one above that
abbrev pub inverted : Option Wait → Inversion
inverted (Some wait) = record { number = 0; found = true; wait = wait.time; piece = wait.piece }
inverted None = without_wait 0

-- 4 on the hazard, 5 on hazard, time and w, then 6; 0 where nothing is refused
abbrev pub evaluation_refusal : HazardFields → Bool → ℕ
evaluation_refusal f in_limits = number_of (joined (hazard_faults f) (range_fault_unless in_limits))

-- e where nothing is refused, else what is given on a refusal
abbrev pub unless_refused : {A : Type 0} → (ℕ → A) → ℕ → A → A
unless_refused without n e = cond (eqb n 0) e (without n)

unfoldable pub evaluated_hazard_at : HazardFields → Float → Evaluation
evaluated_hazard_at f t =
    unless_refused without_value (evaluation_refusal f (in_range t)) (valued (hazard_at (hazard_of f) (intervals_of f) t))

unfoldable pub evaluated_cumulative_hazard : HazardFields → Float → Evaluation
evaluated_cumulative_hazard f t =
    unless_refused without_value (evaluation_refusal f (in_range t)) (valued (cumulative_hazard (hazard_of f) (intervals_of f) t))

-- an infinite wait is a value; it is no candidate in clock and sampler
unfoldable pub evaluated_inversion : HazardFields → Float → Float → Inversion
evaluated_inversion f start w =
    unless_refused without_wait (evaluation_refusal f (in_range start && in_range w))
    (inverted (invert_cumulative_hazard (hazard_of f) (intervals_of f) start w))

-- ---- what the calls return, read so

abbrev pub evaluation_of : Result Float Refusal → Evaluation
evaluation_of (Ok x) = valued x
evaluation_of (Err refusal) = without_value (number refusal)

abbrev pub inversion_of : Result (Option Wait) Refusal → Inversion
inversion_of (Ok found) = inverted found
inversion_of (Err refusal) = without_wait (number refusal)
