-- Document 01, "Clocks": set_channel of hazard_clock.rs, with its draw, refused by 10, 15 and 16 (and by 1 for a position past the stream)
-- with nothing changed.
use Rattle.std.specs.Prelude.{Bool, true, cond, List, ℕ, ◌+◌, eqb, ltb, get_or, set, Float, Some, None}
use Rattle.std.specs.Float.Ieee.{le}
use Rattle.hazards.specs.Floats.{z}
use Rattle.hazards.specs.Refusals.{too_many_causes}
use Rattle.hazards.specs.Draws.{DrawAndPosition, draw_at}
use Rattle.clocks.specs.Channels.{empty_channel, settled_hazard, place_of_cause, place_for_new, insert_at}
use Rattle.clocks.specs.Clocks.{SurvivalClock, used_channels, with_channels}
use Rattle.clocks.specs.declared.channels.HazardChannelState.{HazardChannelState}
use Rattle.clocks.specs.declared.clocks.HazardInterruptionPolicy.{HazardInterruptionPolicy}
use Rattle.clocks.specs.declared.clocks.HazardInterruptionPolicy.TheVariants.{Restart, RetainResidual}
use Rattle.clocks.specs.declared.setting.CauseSetting.{CauseSetting}

-- the refusal or 0, the clock and the draw position after it
pub record ChannelSet : Type 0 where
  pub number : ℕ
  pub clock : SurvivalClock
  pub position : ℕ

-- the channel that a setting makes, at a threshold and an accumulated hazard
abbrev pub channel_of : CauseSetting → Float → Float → HazardChannelState
channel_of s accumulated threshold = record {
  cause_id = s.cause_id;
  priority = s.priority;
  hazard = s.hazard;
  intervals = s.intervals;
  accumulated_hazard = accumulated;
  target_threshold = threshold;
  interval_start_time = s.now;
}

-- whether a channel that is set again draws: always under Restart, else where its threshold is reached
abbrev pub draws_again : HazardInterruptionPolicy → Float → Float → Bool
draws_again Restart accumulated threshold = true
draws_again RetainResidual accumulated threshold = le threshold accumulated

-- nothing changed
abbrev pub not_set : SurvivalClock → ℕ → ℕ → ChannelSet
not_set k position number = record { number = number; clock = k; position = position }

-- f of the threshold drawn
abbrev pub after_draw : SurvivalClock → ℕ → DrawAndPosition → (Float → SurvivalClock) → ChannelSet
after_draw k position d f =
    cond (eqb d.number 0) (record { number = 0; clock = f d.threshold; position = d.position.next })
    (not_set k position d.number)

-- a cause that the clock has, at its place
unfoldable pub set_again : SurvivalClock → CauseSetting → List ℕ → ℕ → ℕ → ChannelSet
set_again k s stream position at =
    let old = get_or k.channels at empty_channel in
    let accumulated = settled_hazard old s.now in
    cond (draws_again k.policy accumulated old.target_threshold)
    (after_draw k position (draw_at stream position)
    (λ w. with_channels k (set k.channels at (channel_of s z w)) k.channel_count))
    (record {
      number = 0;
      clock =
          with_channels k (set k.channels at (channel_of s accumulated old.target_threshold)) k.channel_count;
      position = position;
    })

-- a cause that is new to the clock goes to its place by ascending cause: a ninth is refused
unfoldable pub set_new : SurvivalClock → CauseSetting → List ℕ → ℕ → ChannelSet
set_new k s stream position =
    let at = place_for_new s.cause_id (used_channels k) in
    cond (ltb k.channel_count 8)
    (after_draw k position (draw_at stream position)
    (λ w. with_channels k (insert_at at (channel_of s z w) k.channels) (k.channel_count + 1)))
    (not_set k position too_many_causes)

-- set_channel: the used channel with this cause, if any, is set again; a cause without one is new
unfoldable pub set_channel : SurvivalClock → CauseSetting → List ℕ → ℕ → ChannelSet
set_channel k s stream position =
    elim (place_of_cause s.cause_id (used_channels k)) [
      | Some at ↦ set_again k s stream position at
      | None ↦ set_new k s stream position
    ]
