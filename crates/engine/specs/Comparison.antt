-- Document 01, refusal 13 ("end in another state"): two states are the same where every field is, used or not; floats by their bits, with
-- all NaNs alike.
use Rattle.std.specs.Prelude.{Bool, false, not, cond, ◌&&◌, List, eqb, ℤ, get_or, Float}
use Rattle.std.specs.Int.Signed.{le_z}
use Rattle.std.specs.Float.{nan, binary64}
use Rattle.std.specs.Float.Ieee.{is_nan, to_bits}
use Rattle.hazards.specs.Rates.{kind_number, own_rate}
use Rattle.hazards.specs.Ties.{tie_number}
use Rattle.hazards.specs.declared.rates.HazardRate.{HazardRate}
use Rattle.hazards.specs.declared.rates.Intervals.{Intervals}
use Rattle.clocks.specs.Channels.{empty_channel}
use Rattle.clocks.specs.Clocks.{policy_number, SurvivalClock}
unfoldable pub use Rattle.clocks.specs.Layout.{every_below}
use Rattle.clocks.specs.declared.channels.HazardChannelState.{HazardChannelState}
use Rattle.clocks.specs.declared.clocks.EntityId.{EntityId}
use Rattle.clocks.specs.declared.clocks.ScheduledEvent.{ScheduledEvent}
use Rattle.clocks.specs.declared.clocks.Winner.{Winner}
use Rattle.engine.specs.State.{empty_slot, empty_request, ClockSlot, SharedState, EngineState}
use Rattle.engine.specs.declared.state.Request.{Request}

-- ---- single values

abbrev pub same_flag : Bool → Bool → Bool
same_flag a b = cond a b (not b)

-- each at most the other
abbrev pub same_integer : ℤ → ℤ → Bool
same_integer a b = le_z a b && le_z b a

unfoldable pub same_float : Float → Float → Bool
same_float x y = cond (is_nan x) (is_nan y) (cond (is_nan y) false (eqb (to_bits binary64 x) (to_bits binary64 y)))

-- ---- channels

abbrev pub same_floats : List Float → List Float → Bool
same_floats xs ys = every_below 8 (λ i. same_float (get_or xs i nan) (get_or ys i nan))

unfoldable pub same_hazard : HazardRate → HazardRate → Bool
same_hazard a b = eqb (kind_number a) (kind_number b) && same_float (own_rate a) (own_rate b)

unfoldable pub same_intervals : Intervals → Intervals → Bool
same_intervals a b = eqb a.count b.count && (same_floats a.ends b.ends && same_floats a.rates b.rates)

unfoldable pub same_channel : HazardChannelState → HazardChannelState → Bool
same_channel a b =
    eqb a.cause_id b.cause_id
    && (eqb a.priority b.priority
    && (same_hazard a.hazard b.hazard
    && (same_intervals a.intervals b.intervals
    && (same_float a.accumulated_hazard b.accumulated_hazard
    && (same_float a.target_threshold b.target_threshold
    && same_float a.interval_start_time b.interval_start_time)))))

-- ---- clocks

abbrev pub same_entity : EntityId → EntityId → Bool
same_entity a b = eqb a.index b.index && eqb a.generation b.generation

abbrev pub same_event : ScheduledEvent → ScheduledEvent → Bool
same_event a b = same_flag a.present b.present && eqb a.index b.index

abbrev pub same_winner : Winner → Winner → Bool
same_winner a b =
    same_flag a.present b.present
    && (eqb a.cause_id b.cause_id && (same_float a.time b.time && eqb a.piece b.piece))

-- what CREATE sets
unfoldable pub same_settings : SurvivalClock → SurvivalClock → Bool
same_settings a b =
    eqb a.process_id b.process_id
    && (same_flag a.has_entity b.has_entity
    && (same_entity a.entity b.entity
    && (eqb (policy_number a.policy) (policy_number b.policy)
    && (eqb (tie_number a.tie_breaker) (tie_number b.tie_breaker) && same_float a.tick_scale b.tick_scale))))

unfoldable pub same_channels : SurvivalClock → SurvivalClock → Bool
same_channels a b =
    eqb a.channel_count b.channel_count
    && every_below 8 (λ i. same_channel (get_or a.channels i empty_channel) (get_or b.channels i empty_channel))

unfoldable pub same_schedule : SurvivalClock → SurvivalClock → Bool
same_schedule a b =
    same_event a.scheduled_event_id b.scheduled_event_id
    && (same_winner a.current_winner b.current_winner
    && (same_flag a.is_active b.is_active && same_float a.last_update_time b.last_update_time))

unfoldable pub same_clock : SurvivalClock → SurvivalClock → Bool
same_clock a b = same_settings a b && (same_channels a b && same_schedule a b)

-- ---- the state

unfoldable pub same_slot : ClockSlot → ClockSlot → Bool
same_slot a b = same_flag a.present b.present && same_clock a.clock b.clock

unfoldable pub same_request : Request → Request → Bool
same_request a b =
    eqb a.clock b.clock
    && (eqb a.ticks.low b.ticks.low
    && (eqb a.ticks.high b.ticks.high
    && (same_integer a.priority b.priority && eqb a.index b.index)))

unfoldable pub same_shared : SharedState → SharedState → Bool
same_shared a b =
    every_below 16 (λ i. same_request (get_or a.queue i empty_request) (get_or b.queue i empty_request))
    && (eqb a.queued b.queued
    && (eqb a.request_count b.request_count
    && (eqb a.position b.position && eqb a.applied_length b.applied_length)))

unfoldable pub same_state : EngineState → EngineState → Bool
same_state a b =
    every_below 16 (λ i. same_slot (get_or a.slots i empty_slot) (get_or b.slots i empty_slot))
    && same_shared a.shared b.shared
