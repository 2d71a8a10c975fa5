-- A hazard that refusals 5 and 6 let through is sound, and fields that 4 to 7 let through stand for one.
use mathlib.Core.Path.{◌≡◌}
use mathlib.Core.Bool.{Bool, true, false, not, true≢false}
use lib.Dec.{T}
use Rattle.hazards.specs.Refusals.{number_of}
use Rattle.hazards.specs.Checks.{range_fault, intervals_fault, hazard_faults, hazard_of, intervals_of}
use Rattle.hazards.specs.declared.checks.HazardFields.{HazardFields}
use Rattle.hazards.specs.declared.rates.HazardRate.{HazardRate}
use Rattle.hazards.specs.declared.rates.Intervals.{Intervals}
use Rattle.hazards.proofs.AcceptedFlags.{accepted}
use Rattle.hazards.proofs.SoundPairs.{sound}

-- ---- of a hazard
pub not-false : (b : Bool) → not b ≡ false → T b
not-false true e = tt
not-false false e = absurd (true≢false e)

pub faultless_sound : (h : HazardRate) (p : Intervals) → range_fault h p ≡ false → intervals_fault h p ≡ false → T (sound h p)
unfolding sound
faultless_sound h p r i = rw (r, i) tt

-- ---- of the fields as in SET
pub accepted_sound : (f : HazardFields) → number_of (hazard_faults f) ≡ 0 → T (sound (hazard_of f) (intervals_of f))
unfolding hazard_faults
accepted_sound f h =
    let n = accepted (hazard_faults f) h in
    faultless_sound (hazard_of f) (intervals_of f) n.range n.intervals
