-- A state is the same as itself.
use mathlib.Core.Path.{◌≡◌, refl}
use mathlib.Core.Bool.{Bool, true, false, ◌&&◌}
use mathlib.Core.List.{List}
use Prim.Native.Nat.{ℕ, zero, suc}
use borrow.Author.Tests.{eq-eqb}
use lib.Dec.{eqb}
use lib.IntN.{ℤ}
use lib.Signed.{le_z, ≤ℤ_refl}
use lib.Ieee.{Float, binary64, is_nan, to_bits}
use lib.Ieee.Bits.{is_true}
use Rattle.hazards.specs.Rates.{kind_number, own_rate}
use Rattle.hazards.specs.Ties.{tie_number}
use Rattle.hazards.specs.declared.rates.HazardRate.{HazardRate}
use Rattle.hazards.specs.declared.rates.Intervals.{Intervals}
use Rattle.clocks.specs.Clocks.{policy_number, SurvivalClock}
use Rattle.clocks.specs.declared.channels.HazardChannelState.{HazardChannelState}
use Rattle.hazards.proofs.Cases.{by_test}
use Rattle.engine.specs.Comparison.{same_flag, same_integer, same_float, every_below, same_floats, same_hazard}
use Rattle.engine.specs.Comparison.{same_intervals, same_channel, same_settings, same_channels, same_schedule}
use Rattle.engine.specs.Comparison.{same_clock, same_slot, same_request, same_shared, same_state}
use Rattle.engine.specs.State.{ClockSlot, SharedState, EngineState}
use Rattle.engine.specs.declared.state.Request.{Request}

both : {a b : Bool} → a ≡ true → b ≡ true → (a && b) ≡ true
both e f = rw (e, f)

number_same : (x : ℕ) → eqb x x ≡ true
number_same x = eq-eqb x x refl

flag_same : (b : Bool) → same_flag b b ≡ true
flag_same true = refl
flag_same false = refl

pub integer_same : (x : ℤ) → same_integer x x ≡ true
integer_same x = rw (is_true (le_z x x) (≤ℤ_refl x).le)

float_same : (x : Float) → same_float x x ≡ true
unfolding same_float
float_same x = by_test (is_nan x) (λ e. rw e) (λ e. rw (e, number_same (to_bits binary64 x)))

every_same : (n : ℕ) (test : ℕ → Bool) → ((i : ℕ) → test i ≡ true) → every_below n test ≡ true
unfolding every_below
every_same zero test h = refl
every_same (suc n) test h = rw (every_same n test h, h n)

hazard_same : (h : HazardRate) → same_hazard h h ≡ true
unfolding same_hazard
hazard_same h = rw (number_same (kind_number h), float_same (own_rate h))

floats_same : (xs : List Float) → same_floats xs xs ≡ true
floats_same xs = every_same 8 _ (λ i. float_same _)

intervals_same : (p : Intervals) → same_intervals p p ≡ true
unfolding same_intervals
intervals_same p = both (number_same p.count) (both (floats_same p.ends) (floats_same p.rates))

channel_same : (c : HazardChannelState) → same_channel c c ≡ true
unfolding same_channel
channel_same c =
    rw (
      number_same c.cause_id,
      number_same c.priority,
      hazard_same c.hazard,
      intervals_same c.intervals,
      float_same c.accumulated_hazard,
      float_same c.target_threshold,
      float_same c.interval_start_time,
    )

settings_same : (k : SurvivalClock) → same_settings k k ≡ true
unfolding same_settings
settings_same k =
    rw (
      number_same k.process_id,
      flag_same k.has_entity,
      number_same k.entity.index,
      number_same k.entity.generation,
      number_same (policy_number k.policy),
      number_same (tie_number k.tie_breaker),
      float_same k.tick_scale,
    )

channels_same : (k : SurvivalClock) → same_channels k k ≡ true
unfolding same_channels
channels_same k = rw (number_same k.channel_count) (every_same 8 _ (λ i. channel_same _))

schedule_same : (k : SurvivalClock) → same_schedule k k ≡ true
unfolding same_schedule
schedule_same k =
    rw (
      flag_same k.scheduled_event_id.present,
      number_same k.scheduled_event_id.index,
      flag_same k.current_winner.present,
      number_same k.current_winner.cause_id,
      float_same k.current_winner.time,
      number_same k.current_winner.piece,
      flag_same k.is_active,
      float_same k.last_update_time,
    )

slot_same : (s : ClockSlot) → same_slot s s ≡ true
unfolding same_slot same_clock
slot_same s = rw (flag_same s.present, settings_same s.clock, channels_same s.clock, schedule_same s.clock)

request_same : (r : Request) → same_request r r ≡ true
unfolding same_request
request_same r =
    rw (
      number_same r.clock,
      number_same r.ticks.low,
      number_same r.ticks.high,
      integer_same r.priority,
      number_same r.index,
    )

shared_same : (p : SharedState) → same_shared p p ≡ true
unfolding same_shared
shared_same p =
    both (every_same 16 _ (λ i. request_same _))
    (rw (
      number_same p.queued,
      number_same p.request_count,
      number_same p.position,
      number_same p.applied_length,
    ))

pub state_same : (s : EngineState) → same_state s s ≡ true
unfolding same_state
state_same s = both (every_same 16 _ (λ i. slot_same _)) (shared_same s.shared)
