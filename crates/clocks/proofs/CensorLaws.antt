-- A censor time as the code has it says what the record does: the time of an absent one is not looked at.
use mathlib.Core.Path.{◌≡◌, ap}
use mathlib.Core.Bool.{true, false}
use Prim.Native.Nat.{ℕ}
use lib.Ieee.{Float}
use Rattle.std.specs.Prelude.{Option, Some, None}
use Rattle.hazards.specs.declared.ties.Candidate.{Candidate}
use Rattle.hazards.proofs.Cases.{by_test}
use Rattle.clocks.specs.Channels.{restarted, on_used}
use Rattle.clocks.specs.Clocks.{SurvivalClock, with_channels, earliest_event}
use Rattle.clocks.specs.RowsInternals.{censor_from, censor_time}
use Rattle.clocks.specs.Scheduling.{Censor, RealizedEvent, final_event, scheduled_for, reschedule, resume}

module _ (now : Float) (c : Censor) where
  final_same : (e : Option Candidate) → final_event e now (censor_from (censor_time c)) ≡ final_event e now c
  unfolding final_event
  final_same (Some found) = by_test c.present (λ (p : c.present ≡ true). rw p) (λ (p : c.present ≡ false). rw p)
  final_same None = by_test c.present (λ (p : c.present ≡ true). rw p) (λ (p : c.present ≡ false). rw p)

  pub reschedule_same : (k : SurvivalClock) (index : ℕ) → reschedule k now (censor_from (censor_time c)) index ≡ reschedule k now c index
  unfolding reschedule
  reschedule_same k index = ap (λ (e : RealizedEvent). scheduled_for k now e index) (final_same (earliest_event k now))

  pub resume_same : (k : SurvivalClock) (index : ℕ) → resume k now (censor_from (censor_time c)) index ≡ resume k now c index
  unfolding resume
  resume_same k index = reschedule_same (with_channels k (on_used (restarted now) k.channel_count k.channels) k.channel_count) index
