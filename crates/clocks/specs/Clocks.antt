-- Document 01, "Clocks": SurvivalClock of hazard_clock.rs as a record, and the methods new, remove_channel and compute_earliest_event.
-- set_channel is in Setting; reschedule, pause, resume and on_event_dispatched are in Scheduling.
use Rattle.std.specs.Prelude.{Bool, false, cond, List, [], ◌∷◌, ◌++◌, ℕ, ◌-◌, eqb, take, replicate, pos, Float, Option, Some, None}
use Rattle.std.specs.Float.{fin}
use Rattle.std.specs.Float.Ieee.{le}
use Rattle.hazards.specs.Floats.{z}
use Rattle.hazards.specs.Ties.{earliest}
use Rattle.hazards.specs.declared.ties.TieBreaker.{TieBreaker}
use Rattle.hazards.specs.declared.ties.Candidate.{Candidate}
use Rattle.clocks.specs.Channels.{empty_channel, place_of_cause, remove_at, channel_candidate}
use Rattle.clocks.specs.declared.channels.HazardChannelState.{HazardChannelState}
use Rattle.clocks.specs.declared.clocks.EntityId.{EntityId}
use Rattle.clocks.specs.declared.clocks.HazardInterruptionPolicy.{HazardInterruptionPolicy}
use Rattle.clocks.specs.declared.clocks.HazardInterruptionPolicy.TheVariants.{Restart, RetainResidual}
use Rattle.clocks.specs.declared.clocks.ScheduledEvent.{ScheduledEvent}
use Rattle.clocks.specs.declared.clocks.Winner.{Winner}

pub record SurvivalClock : Type 0 where
  pub process_id : ℕ
  pub has_entity : Bool
  pub entity : EntityId
  pub policy : HazardInterruptionPolicy
  pub tie_breaker : TieBreaker
  pub tick_scale : Float
  pub channels : List HazardChannelState
  pub channel_count : ℕ
  pub scheduled_event_id : ScheduledEvent
  pub current_winner : Winner
  pub is_active : Bool
  pub last_update_time : Float

-- the policies by their numbers in document 01; another number is refused by 4 before policy_of is asked
abbrev pub policy_number : HazardInterruptionPolicy → ℕ
policy_number Restart = 0
policy_number RetainResidual = 1

abbrev pub policy_of : ℕ → HazardInterruptionPolicy
policy_of number = cond (eqb number 0) Restart RetainResidual

-- no entity; no scheduled event; no winner
abbrev pub no_entity : EntityId
no_entity = record { index = 0; generation = 0 }

abbrev pub not_scheduled : ScheduledEvent
not_scheduled = record { present = false; index = 0 }

abbrev pub no_winner : Winner
no_winner = record { present = false; cause_id = 0; time = z; piece = 0 }

-- 1.0
abbrev pub one : Float
one = fin false 1 (pos 0)

-- new: a scale at most 0 becomes 1.0; without an entity none is kept
unfoldable pub new_clock : ℕ → Bool → EntityId → HazardInterruptionPolicy → TieBreaker → Float → SurvivalClock
new_clock process has_entity entity policy tie scale = record {
  process_id = process;
  has_entity = has_entity;
  entity = cond has_entity entity no_entity;
  policy = policy;
  tie_breaker = tie;
  tick_scale = cond (le scale z) one scale;
  channels = replicate 8 empty_channel;
  channel_count = 0;
  scheduled_event_id = not_scheduled;
  current_winner = no_winner;
  is_active = false;
  last_update_time = z;
}

abbrev pub used_channels : SurvivalClock → List HazardChannelState
used_channels k = take k.channel_count k.channels

-- a clock with other channels
abbrev pub with_channels : SurvivalClock → List HazardChannelState → ℕ → SurvivalClock
with_channels k channels count = record {
  process_id = k.process_id;
  has_entity = k.has_entity;
  entity = k.entity;
  policy = k.policy;
  tie_breaker = k.tie_breaker;
  tick_scale = k.tick_scale;
  channels = channels;
  channel_count = count;
  scheduled_event_id = k.scheduled_event_id;
  current_winner = k.current_winner;
  is_active = k.is_active;
  last_update_time = k.last_update_time;
}

-- a clock with another schedule
abbrev pub with_schedule : SurvivalClock → ScheduledEvent → Winner → Bool → Float → SurvivalClock
with_schedule k scheduled winner active last = record {
  process_id = k.process_id;
  has_entity = k.has_entity;
  entity = k.entity;
  policy = k.policy;
  tie_breaker = k.tie_breaker;
  tick_scale = k.tick_scale;
  channels = k.channels;
  channel_count = k.channel_count;
  scheduled_event_id = scheduled;
  current_winner = winner;
  is_active = active;
  last_update_time = last;
}

-- remove_channel: the used channel with this cause, if any, is taken out; an absent cause leaves the clock as it is
unfoldable pub remove_channel : SurvivalClock → ℕ → SurvivalClock
remove_channel k cause =
    elim (place_of_cause cause (used_channels k)) [
      | Some at ↦ with_channels k (remove_at at k.channels) (k.channel_count - 1)
      | None ↦ k
    ]

-- the candidates of the used channels, in their order
unfoldable pub clock_candidates : Float → List HazardChannelState → List Candidate
clock_candidates now [] = []
clock_candidates now (c ∷ cs) = channel_candidate now c ++ clock_candidates now cs

-- compute_earliest_event: ties are on the rounded now + wait
unfoldable pub earliest_event : SurvivalClock → Float → Option Candidate
earliest_event k now = earliest k.tie_breaker (clock_candidates now (used_channels k))
