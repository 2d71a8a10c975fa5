-- Laws of the refusals' numbers.
-- Assumes nothing.
use mathlib.Core.Path.{◌≡◌}
use Prim.Native.Nat.{◌<◌}
use native.Mathlib.Omega.{arith}
use Rattle.hazards.specs.Refusals.{number}
use Rattle.hazards.specs.declared.refusals.Refusal.{Refusal}
use Rattle.hazards.specs.declared.refusals.Refusal.TheVariants.{InvalidState, NoCommand, CutShort, BadChoice, OutOfRange, BadIntervals, BadIdentifier, ClockPresent, ClockAbsent, TooManyCauses}
use Rattle.hazards.specs.declared.refusals.Refusal.TheVariants.{QueueEmpty, NothingApplied, ReplayFails, JournalFull, StreamExhausted, BadThreshold, AnswersFull, BadBuffers, OutsideLimits, NoRate}

-- 0 is the number of no refusal
pub number_above_zero : (refusal : Refusal) → 0 < number refusal
number_above_zero InvalidState = omega arith
number_above_zero NoCommand = omega arith
number_above_zero CutShort = omega arith
number_above_zero BadChoice = omega arith
number_above_zero OutOfRange = omega arith
number_above_zero BadIntervals = omega arith
number_above_zero BadIdentifier = omega arith
number_above_zero ClockPresent = omega arith
number_above_zero ClockAbsent = omega arith
number_above_zero TooManyCauses = omega arith
number_above_zero QueueEmpty = omega arith
number_above_zero NothingApplied = omega arith
number_above_zero ReplayFails = omega arith
number_above_zero JournalFull = omega arith
number_above_zero StreamExhausted = omega arith
number_above_zero BadThreshold = omega arith
number_above_zero AnswersFull = omega arith
number_above_zero BadBuffers = omega arith
number_above_zero OutsideLimits = omega arith
number_above_zero NoRate = omega arith

pub number_not_zero : (refusal : Refusal) → number refusal ≡ 0 → ⊥
number_not_zero refusal e = omega (arith, number_above_zero refusal)
