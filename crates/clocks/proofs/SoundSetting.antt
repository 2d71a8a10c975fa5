-- set_channel keeps a clock sound, for a setting whose hazard passes 5 and 6 and whose now is a time.
use mathlib.Core.Path.{◌≡◌, refl}
use mathlib.Core.Bool.{true, false}
use mathlib.Core.List.{List}
use Prim.Native.Nat.{ℕ}
use borrow.Author.Tests.{ltb-true, eqb-true}
use lib.Dec.{T, eqb, ltb}
use lib.ListN.{get_or}
use lib.Ieee.{Float}
use Rattle.hazards.specs.Floats.{z, is_threshold, is_time}
use Rattle.hazards.specs.Checks.{range_fault, intervals_fault}
use Rattle.hazards.specs.Draws.{draw_at}
use Rattle.hazards.proofs.Bounds.{Upto, largest}
use Rattle.hazards.proofs.Upto.{zero_upto}
use Rattle.hazards.proofs.Limits.{time_upto}
use Rattle.hazards.proofs.DrawLaws.{accepted_threshold}
use Rattle.std.specs.Prelude.{Some, None}
use Rattle.clocks.specs.Channels.{empty_channel, settled_hazard, place_of_cause}
use Rattle.clocks.specs.Clocks.{SurvivalClock, used_channels}
use Rattle.clocks.specs.Setting.{channel_of, draws_again, set_again, set_new, set_channel}
use Rattle.clocks.specs.declared.channels.HazardChannelState.{HazardChannelState}
use Rattle.clocks.specs.declared.setting.CauseSetting.{CauseSetting}
use Rattle.clocks.proofs.Sound.{SoundChannel, SoundClock}
use Rattle.hazards.proofs.Cases.{by_test}
use Rattle.clocks.proofs.Places.{by_place}
use Rattle.clocks.proofs.SoundChannels.{settled_hazard_upto, setting_sound}
use Rattle.clocks.proofs.SoundPlaces.{held_sound, replaced_sound, added_sound}

module _ (k : SurvivalClock) (sk : SoundClock k) (s : CauseSetting) (range : range_fault s.hazard s.intervals ≡ false)
    (intervals : intervals_fault s.hazard s.intervals ≡ false) (time : T (is_time s.now)) (stream : List ℕ) (position : ℕ) where
  abbrev cause : ℕ
  cause = s.cause_id

  -- a channel of the setting, and the one of the threshold drawn
  made_sound : {accumulated threshold : Float} → Upto largest accumulated → T (is_threshold threshold)
      → SoundChannel (channel_of s accumulated threshold)
  made_sound a t = setting_sound s range intervals (time_upto s.now time) a t

  abbrev drawn : HazardChannelState
  drawn = channel_of s z (draw_at stream position).threshold

  drawn_sound : eqb (draw_at stream position).number 0 ≡ true → SoundChannel drawn
  drawn_sound d =
      made_sound (zero_upto largest) (rw (accepted_threshold stream position (eqb-true (draw_at stream position).number 0 d)) tt)

  -- a cause that the clock has
  again_sound : (at : ℕ) → place_of_cause cause (used_channels k) ≡ Some at → SoundClock (set_again k s stream position at).clock
  unfolding set_again
  again_sound at h =
      let old = get_or k.channels at empty_channel in
      let so = held_sound k sk at cause h in
      let accumulated = settled_hazard old s.now in
      let kept = channel_of s accumulated old.target_threshold in
      by_test (draws_again k.policy accumulated old.target_threshold)
      (λ e.
      by_test (eqb (draw_at stream position).number 0) (λ d. rw (e, d) (replaced_sound k sk at cause h drawn refl (drawn_sound d)))
      (λ d. rw (e, d) sk))
      (λ e.
      rw e
      (replaced_sound k sk at cause h kept refl
      (made_sound (settled_hazard_upto old so s.now (time_upto s.now time)) so.threshold)))

  -- a cause that is new to the clock
  new_cause_sound : place_of_cause cause (used_channels k) ≡ None → SoundClock (set_new k s stream position).clock
  unfolding set_new
  new_cause_sound h =
      by_test (ltb k.channel_count 8)
      (λ e.
      by_test (eqb (draw_at stream position).number 0)
      (λ d. rw (e, d) (added_sound k sk drawn (ltb-true k.channel_count 8 e) h (drawn_sound d))) (λ d. rw (e, d) sk))
      (λ e. rw e sk)

  pub set-sound : SoundClock (set_channel k s stream position).clock
  unfolding set_channel
  set-sound =
      by_place (place_of_cause cause (used_channels k))
      (λ at h. rw (set_channel, h) (again_sound at h)) (λ h. rw (set_channel, h) (new_cause_sound h))
