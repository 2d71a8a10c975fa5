-- What set_channel comes to, whatever the channels become: set with the threshold kept, set with a draw, or refused with nothing changed.
use mathlib.Core.Path.{◌≡◌, refl}
use mathlib.Core.Bool.{true, false, true≢false}
use mathlib.Core.List.{List}
use Prim.Native.Nat.{ℕ, ◌≤◌}
use native.Mathlib.Omega.{arith}
use borrow.Author.Tests.{eqb-true, eqb-false}
use lib.Dec.{eqb, ltb}
use lib.ListN.{get_or}
use Rattle.hazards.specs.Draws.{stream_length, draw_at}
use Rattle.hazards.specs.Refusals.{too_many_causes}
use Rattle.hazards.proofs.DrawLaws.{draw_number, each_way, accepted_within}
use Rattle.clocks.specs.Channels.{empty_channel, settled_hazard, place_of_cause}
use Rattle.clocks.specs.Clocks.{SurvivalClock, used_channels, with_channels}
use Rattle.clocks.specs.Setting.{ChannelSet, draws_again, not_set, set_again, set_new, set_channel}
use Rattle.clocks.specs.RowsInternals.{takes_cause}
use Rattle.clocks.specs.declared.channels.HazardChannelState.{HazardChannelState}
use Rattle.clocks.specs.declared.setting.CauseSetting.{CauseSetting}
use Rattle.hazards.proofs.Cases.{by_test}
use Rattle.clocks.proofs.Places.{by_place}

module _ (k : SurvivalClock) (s : CauseSetting) (stream : List ℕ) (position : ℕ) where
  -- ---- what holds of each way holds of set_channel
  module _ (X : ChannelSet → Type 0)
      (kept : (cs : List HazardChannelState) (n : ℕ) → X (record { number = 0; clock = with_channels k cs n; position = position }))
      (drawn : (cs : List HazardChannelState) (n : ℕ) → draw_number stream position ≡ 0
      → X (record { number = 0; clock = with_channels k cs n; position = (draw_at stream position).position.next }))
      (refused : (draw_number stream position ≡ 0 → ⊥) → X (not_set k position (draw_number stream position)))
      (ninth : X (not_set k position too_many_causes))
    where
      again_way : (at : ℕ) → X (set_again k s stream position at)
      unfolding set_again
      again_way at =
          let old = get_or k.channels at empty_channel in
          by_test (draws_again k.policy (settled_hazard old s.now) old.target_threshold)
          (λ e.
          by_test (eqb (draw_number stream position) 0) (λ d. rw (e, d) (drawn _ _ (eqb-true _ _ d)))
          (λ d. rw (e, d) (refused (eqb-false _ _ d))))
          (λ e. rw e (kept _ _))

      new_way : X (set_new k s stream position)
      unfolding set_new
      new_way =
          by_test (ltb k.channel_count 8)
          (λ e.
          by_test (eqb (draw_number stream position) 0) (λ d. rw (e, d) (drawn _ _ (eqb-true _ _ d)))
          (λ d. rw (e, d) (refused (eqb-false _ _ d))))
          (λ e. rw e ninth)

      pub set-way : X (set_channel k s stream position)
      unfolding set_channel
      set-way =
          by_place (place_of_cause s.cause_id (used_channels k)) (λ at h. rw (set_channel, h) (again_way at)) (λ h. rw (set_channel, h) new_way)

  -- ---- a refusal changes nothing
  pub set-refused : ((set_channel k s stream position).number ≡ 0 → ⊥)
      → set_channel k s stream position ≡ not_set k position (set_channel k s stream position).number
  set-refused =
      set-way (λ r. (r.number ≡ 0 → ⊥) → r ≡ not_set k position r.number)
      (λ cs n h. absurd (h refl)) (λ cs n d h. absurd (h refl)) (λ d h. refl) (λ h. refl)

  -- ---- a position within the stream stays within it
  pub set-within : position ≤ stream_length stream → (set_channel k s stream position).position ≤ stream_length stream
  set-within l =
      set-way (λ r. r.position ≤ stream_length stream) (λ cs n. l) (λ cs n d. accepted_within stream position d) (λ d. l) l

  -- ---- 10 is the refusal of a cause that the clock doesn't take, and of no other
  abbrev NotTen : ℕ → Type 0
  NotTen n = n ≡ too_many_causes → ⊥

  draw_other : NotTen (draw_number stream position)
  draw_other =
      each_way stream position (λ d. NotTen d.number) (λ h e. omega arith) (λ h e. omega arith)
      (λ h w e. omega arith) (λ h w e. omega arith)

  none_other : NotTen 0
  none_other e = omega arith

  again_other : (at : ℕ) → NotTen (set_again k s stream position at).number
  unfolding set_again
  again_other at =
      let old = get_or k.channels at empty_channel in
      by_test (draws_again k.policy (settled_hazard old s.now) old.target_threshold)
      (λ e. by_test (eqb (draw_number stream position) 0) (λ d. rw (e, d) none_other) (λ d. rw (e, d) draw_other))
      (λ e. rw e none_other)

  new_other : ltb k.channel_count 8 ≡ true → NotTen (set_new k s stream position).number
  unfolding set_new
  new_other e = by_test (eqb (draw_number stream position) 0) (λ d. rw (e, d) none_other) (λ d. rw (e, d) draw_other)

  new_refused : ltb k.channel_count 8 ≡ false → (set_new k s stream position).number ≡ too_many_causes
  unfolding set_new
  new_refused e = rw e

  pub taken_other : takes_cause k s.cause_id ≡ true → (set_channel k s stream position).number ≡ too_many_causes → ⊥
  unfolding set_channel takes_cause
  taken_other t =
      by_place (place_of_cause s.cause_id (used_channels k)) (λ at h. rw (set_channel, h) (again_other at))
      (λ h. rw (set_channel, h) (new_other (rw (takes_cause, h) at t)))

  pub not_taken : takes_cause k s.cause_id ≡ false → (set_channel k s stream position).number ≡ too_many_causes
  unfolding set_channel takes_cause
  not_taken t =
      by_place (place_of_cause s.cause_id (used_channels k)) (λ at h. absurd (true≢false (rw (takes_cause, h) at t)))
      (λ h. rw (set_channel, h) (new_refused (rw (takes_cause, h) at t)))
