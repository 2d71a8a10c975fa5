-- A new clock whose scale is in range is sound, and each method keeps a sound clock sound, where now and the censor time are times
-- (set_channel: SoundSetting).
use mathlib.Core.Path.{◌≡◌, refl, sym}
use mathlib.Core.Bool.{Bool, true, false, cond, true≢false}
use Prim.Native.Nat.{ℕ, ◌^◌}
use native.Mathlib.Omega.{arith}
use lib.Dec.{T}
use lib.Ieee.{Float, le, lt, nan, inf, fin}
use Rattle.hazards.specs.Floats.{z, in_range, is_time}
use Rattle.hazards.proofs.Bounds.{Upto, largest}
use Rattle.hazards.specs.declared.ties.TieBreaker.{TieBreaker}
use Rattle.hazards.proofs.Upto.{zero_upto}
use Rattle.hazards.proofs.Limits.{time_upto}
use Rattle.clocks.specs.Channels.{settled, restarted, place_of_cause}
use Rattle.clocks.specs.Clocks.{SurvivalClock, not_scheduled, no_winner, new_clock, used_channels, remove_channel, earliest_event, one}
use Rattle.clocks.specs.Scheduling.{Censor, RealizedEvent, final_event, scheduled_for, reschedule, pause, resume, on_event_dispatched}
use Rattle.clocks.specs.Validation.{is_finite, ascending_from}
use Rattle.clocks.specs.declared.clocks.EntityId.{EntityId}
use Rattle.clocks.specs.declared.clocks.HazardInterruptionPolicy.{HazardInterruptionPolicy}
use Rattle.clocks.proofs.Sound.{none, SoundClock}
use Rattle.hazards.proofs.Cases.{by_test}
use Rattle.clocks.proofs.Places.{by_place}
use Rattle.clocks.proofs.EventTimes.{delta_upto, winner_upto}
use Rattle.clocks.proofs.SchedulingCases.{pause_inactive, pause_active}
use Rattle.clocks.proofs.SoundChannels.{settled_sound, restarted_sound}
use Rattle.clocks.proofs.SoundClocks.{schedule_sound, changed_sound}
use Rattle.clocks.proofs.SoundPlaces.{removed_sound}

-- ---- new
in_range_finite : (x : Float) → T (in_range x) → T (is_finite x)
unfolding in_range is_finite
in_range_finite nan h = absurd (unfold le in h)
in_range_finite (inf true) h = absurd (unfold le in h)
in_range_finite (inf false) h = absurd (unfold le in h)
in_range_finite (fin s m e) h = unfold lt in tt

scale_finite : (scale : Float) → T (in_range scale) → T (is_finite (cond (le scale z) one scale))
scale_finite scale h = by_test (le scale z) (λ e. rw e (unfold is_finite lt in tt)) (λ e. rw e (in_range_finite scale h))

pub new_sound : (process : ℕ) (has_entity : Bool) (entity : EntityId) (policy : HazardInterruptionPolicy) (tie : TieBreaker) (scale : Float)
    → T (in_range scale) → SoundClock (new_clock process has_entity entity policy tie scale)
unfolding new_clock
new_sound process has_entity entity policy tie scale h = record {
  places = refl;
  count = omega arith;
  used = none;
  unused = refl;
  causes = unfold ascending_from in tt;
  scale = scale_finite scale h;
  last_update = zero_upto (2 ^ 40);
  winner = λ p. absurd (true≢false (sym p));
}

module _ (k : SurvivalClock) (s : SoundClock k) where
  -- ---- remove_channel
  pub remove_sound : (cause : ℕ) → SoundClock (remove_channel k cause)
  unfolding remove_channel
  remove_sound cause =
      by_place (place_of_cause cause (used_channels k))
      (λ at e. rw (remove_channel, e) (removed_sound k s at cause e)) (λ e. rw (remove_channel, e) s)

  -- ---- on_event_dispatched
  pub dispatched_sound : SoundClock (on_event_dispatched k).clock
  unfolding on_event_dispatched
  dispatched_sound =
      schedule_sound k s not_scheduled no_winner false k.last_update_time (λ p. absurd (true≢false (sym p))) s.last_update

  -- ---- pause
  pub pause_sound : (now : Float) → T (is_time now) → SoundClock (pause k now).clock
  pause_sound now h =
      let u = time_upto now h in
      let paused = changed_sound k s (settled now) (λ c sc. settled_sound c sc now u) (λ c. refl) in
      by_test k.is_active
      (λ e. rw (pause_active k now e) (schedule_sound _ paused not_scheduled k.current_winner false now s.winner u))
      (λ e. rw (pause_inactive k now e) s)

  -- ---- reschedule: scheduled for an event, or for none
  scheduled_sound : (now : Float) (event : RealizedEvent) (index : ℕ) → Upto (2 ^ 40) now → Upto largest event.delta_time
      → SoundClock (scheduled_for k now event index).clock
  unfolding scheduled_for
  scheduled_sound now event index u d =
      by_test event.present (λ e. rw e (schedule_sound k s _ _ true now (λ p. winner_upto now u d) u))
      (λ e. rw e (schedule_sound k s not_scheduled k.current_winner k.is_active now s.winner u))

  pub reschedule_sound : (now : Float) (censor : Censor) (index : ℕ) → T (is_time now) → (censor.present ≡ true → T (is_time censor.time))
      → SoundClock (reschedule k now censor index).clock
  unfolding reschedule
  reschedule_sound now censor index h c =
      let u = time_upto now h in
      scheduled_sound now (final_event (earliest_event k now) now censor) index u
      (delta_upto now u censor (λ p. time_upto censor.time (c p)) k)

-- ---- resume
pub resume_sound : (k : SurvivalClock) → SoundClock k → (now : Float) (censor : Censor) (index : ℕ) → T (is_time now)
    → (censor.present ≡ true → T (is_time censor.time)) → SoundClock (resume k now censor index).clock
unfolding resume
resume_sound k s now censor index h c =
    let started = changed_sound k s (restarted now) (λ d sd. restarted_sound d sd now (time_upto now h)) (λ d. refl) in
    reschedule_sound _ started now censor index h c
