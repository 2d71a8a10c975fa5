-- set_channel by its cases: a channel set again that keeps its threshold, one that draws, a new one, and the refusals.
use mathlib.Core.Path.{◌≡◌, ◌∙◌}
use mathlib.Core.Bool.{Bool, true, false}
use mathlib.Core.List.{List}
use Prim.Native.Nat.{ℕ, ◌+◌, ◌<◌, ◌≤◌}
use borrow.Author.Tests.{lt-ltb, le-ltb, eq-eqb, ne_eqb}
use lib.ListN.{length, get_or, set}
use lib.Ieee.{Float}
use Rattle.hazards.specs.Floats.{z}
use Rattle.hazards.specs.Refusals.{too_many_causes}
use Rattle.hazards.specs.Draws.{DrawAndPosition, draw_at}
use Rattle.std.specs.Prelude.{Some, None}
use Rattle.clocks.specs.Channels.{empty_channel, settled_hazard, place_of_cause, place_for_new, insert_at}
use Rattle.clocks.specs.Clocks.{SurvivalClock, used_channels, with_channels}
use Rattle.clocks.specs.Setting.{channel_of, draws_again, not_set, after_draw, set_again, set_new, set_channel}
use Rattle.clocks.specs.declared.channels.HazardChannelState.{HazardChannelState}
use Rattle.clocks.specs.declared.setting.CauseSetting.{CauseSetting}
use Rattle.clocks.proofs.UsedChannels.{get_d_any}

-- a draw that is refused, and one that is not
module _ (k : SurvivalClock) (position : ℕ) (d : DrawAndPosition) (f : Float → SurvivalClock) where
  draw_refused : (d.number ≡ 0 → ⊥) → not_set k position d.number ≡ after_draw k position d f
  draw_refused h = rw (ne_eqb d.number 0 h)

  draw_accepted : d.number ≡ 0 → record { number = 0; clock = f d.threshold; position = d.position.next } ≡ after_draw k position d f
  draw_accepted h = rw (eq-eqb d.number 0 h)

module _ (k : SurvivalClock) (s : CauseSetting) (stream : List ℕ) (position at : ℕ) where
  -- a cause that the clock has: it keeps its threshold, or draws
  module _ (e : HazardChannelState) (lt : at < length k.channels) {accumulated : Float} {draws : Bool}
      (a : accumulated ≡ settled_hazard (get_or k.channels at e) s.now)
      (b : draws ≡ draws_again k.policy accumulated (get_or k.channels at e).target_threshold) where
    pub again_kept : {c : HazardChannelState} → draws ≡ false → c ≡ channel_of s accumulated (get_or k.channels at e).target_threshold
        → record { number = 0; clock = with_channels k (set k.channels at c) k.channel_count; position = position }
        ≡ set_again k s stream position at
    unfolding set_again
    again_kept h q = rw (get_d_any k.channels at empty_channel e lt, ← a, ← b, h, q)

    again_draws : draws ≡ true
        → after_draw k position (draw_at stream position) (λ w. with_channels k (set k.channels at (channel_of s z w)) k.channel_count)
        ≡ set_again k s stream position at
    unfolding set_again
    again_draws h = rw (get_d_any k.channels at empty_channel e lt, ← a, ← b, h)

    pub again_refused : {d : DrawAndPosition} → draws ≡ true → d ≡ draw_at stream position → (d.number ≡ 0 → ⊥)
        → not_set k position d.number ≡ set_again k s stream position at
    again_refused {d} h q n =
        draw_refused k position d (λ w. with_channels k (set k.channels at (channel_of s z w)) k.channel_count) n
        ∙ rw q (again_draws h)

    pub again_drawn : {d : DrawAndPosition} {c : HazardChannelState} → draws ≡ true → d ≡ draw_at stream position → d.number ≡ 0
        → c ≡ channel_of s z d.threshold
        → record { number = 0; clock = with_channels k (set k.channels at c) k.channel_count; position = d.position.next }
        ≡ set_again k s stream position at
    again_drawn {d} h q n r =
        rw r
        (draw_accepted k position d (λ w. with_channels k (set k.channels at (channel_of s z w)) k.channel_count) n
        ∙ rw q (again_draws h))

-- a cause that is new to the clock
module _ (k : SurvivalClock) (s : CauseSetting) (stream : List ℕ) (position : ℕ) where
  pub new_ninth : 8 ≤ k.channel_count → not_set k position too_many_causes ≡ set_new k s stream position
  unfolding set_new
  new_ninth h = rw (le-ltb k.channel_count 8 h)

  abbrev new_at : ℕ
  new_at = place_for_new s.cause_id (used_channels k)

  new_draws : k.channel_count < 8
      → after_draw k position (draw_at stream position)
      (λ w. with_channels k (insert_at new_at (channel_of s z w) k.channels) (k.channel_count + 1))
      ≡ set_new k s stream position
  unfolding set_new
  new_draws h = rw (lt-ltb k.channel_count 8 h)

  pub new_refused : {d : DrawAndPosition} → k.channel_count < 8 → d ≡ draw_at stream position → (d.number ≡ 0 → ⊥)
      → not_set k position d.number ≡ set_new k s stream position
  new_refused {d} h q n =
      draw_refused k position d (λ w. with_channels k (insert_at new_at (channel_of s z w) k.channels) (k.channel_count + 1)) n
      ∙ rw q (new_draws h)

  pub new_drawn : {d : DrawAndPosition} {c : HazardChannelState} {at : ℕ} {r : SurvivalClock} → k.channel_count < 8
      → d ≡ draw_at stream position → d.number ≡ 0 → c ≡ channel_of s z d.threshold → at ≡ new_at
      → r ≡ with_channels k (insert_at at c k.channels) (k.channel_count + 1)
      → record { number = 0; clock = r; position = d.position.next } ≡ set_new k s stream position
  new_drawn {d} h q n p a e =
      rw (e, p, a)
      (draw_accepted k position d (λ w. with_channels k (insert_at new_at (channel_of s z w) k.channels) (k.channel_count + 1)) n
      ∙ rw q (new_draws h))

  -- which of the two: a used channel has the cause, or none has
  pub set-held : {at : ℕ} → Some at ≡ place_of_cause s.cause_id (used_channels k)
      → set_again k s stream position at ≡ set_channel k s stream position
  unfolding set_channel
  set-held h = rw (set_channel, ← h)

  pub set-absent : None ≡ place_of_cause s.cause_id (used_channels k)
      → set_new k s stream position ≡ set_channel k s stream position
  unfolding set_channel
  set-absent h = rw (set_channel, ← h)
