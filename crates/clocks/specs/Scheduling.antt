-- Document 01, "Clocks": reschedule, pause, resume and on_event_dispatched of hazard_clock.rs. The queue is the engine's: each method says
-- which scheduled event it withdraws and what it asks to have scheduled. Document 02, change 6: "Clock … carry the winner's piece on".
use Rattle.std.specs.Prelude.{Bool, true, false, cond, ℕ, eqb, Float, Option, Some, None}
use Rattle.std.specs.Float.{binary64}
use Rattle.std.specs.Float.Ieee.{add, sub, le}
use Rattle.hazards.specs.Floats.{z, not_below_zero}
use Rattle.hazards.specs.Refusals.{no_cause}
use Rattle.hazards.specs.declared.ties.Candidate.{Candidate}
use Rattle.clocks.specs.Ticks.{ticks_at}
use Rattle.clocks.specs.Channels.{settled, restarted, on_used}
use Rattle.clocks.specs.Clocks.{SurvivalClock, not_scheduled, no_winner, with_channels, with_schedule, earliest_event}
use Rattle.clocks.specs.declared.clocks.ScheduledEvent.{ScheduledEvent}
use Rattle.clocks.specs.declared.ticks.Ticks.{Ticks}

-- a censor time, where there is one
pub record Censor : Type 0 where
  pub present : Bool
  pub time : Float

-- the event that a clock waits for from now on, where there is one
pub record RealizedEvent : Type 0 where
  pub present : Bool
  pub winning_cause : ℕ
  pub delta_time : Float
  pub is_censored : Bool
  pub piece : ℕ

-- the clock, the event that is withdrawn, and the event that is asked for, with its ticks
pub record Rescheduled : Type 0 where
  pub clock : SurvivalClock
  pub withdrawn : ScheduledEvent
  pub event : RealizedEvent
  pub ticks : Ticks

pub record Paused : Type 0 where
  pub clock : SurvivalClock
  pub withdrawn : ScheduledEvent

pub record Dispatched : Type 0 where
  pub clock : SurvivalClock
  pub event : RealizedEvent

-- no event
abbrev pub not_realized : RealizedEvent
not_realized = record { present = false; winning_cause = 0; delta_time = z; is_censored = false; piece = 0 }

-- an event of a cause in a piece of its rate curve, or a censored one of no_cause in piece 0
abbrev pub realized : ℕ → Float → Bool → ℕ → RealizedEvent
realized cause delta censored piece = record {
  present = true;
  winning_cause = cause;
  delta_time = delta;
  is_censored = censored;
  piece = piece;
}

-- the event that a clock is rescheduled to: an event after the censor time is censored at it, one at the censor time is not; without a
-- candidate a censor time from now on is answered
unfoldable pub final_event : Option Candidate → Float → Censor → RealizedEvent
final_event (Some c) now censor =
    let event = realized c.cause_id (not_below_zero (sub binary64 c.time now)) false c.piece in
    cond censor.present
    (cond (le c.time censor.time) event
    (realized no_cause (not_below_zero (sub binary64 censor.time now)) true 0))
    event
final_event None now censor =
    cond censor.present
    (cond (le now censor.time) (realized no_cause (sub binary64 censor.time now) true 0) not_realized)
    not_realized

-- the old event is withdrawn in any case; without a new one winner and active flag stay. index is that of the next request
unfoldable pub scheduled_for : SurvivalClock → Float → RealizedEvent → ℕ → Rescheduled
scheduled_for k now event index =
    let at = add binary64 now event.delta_time in
    cond event.present
    (record {
      clock =
          with_schedule k (record { present = true; index = index })
          (record { present = true; cause_id = event.winning_cause; time = at; piece = event.piece }) true now;
      withdrawn = k.scheduled_event_id;
      event = event;
      ticks = ticks_at now event.delta_time k.tick_scale;
    })
    (record {
      clock = with_schedule k not_scheduled k.current_winner k.is_active now;
      withdrawn = k.scheduled_event_id;
      event = event;
      ticks = record { low = 0; high = 0 };
    })

-- nothing is settled
unfoldable pub reschedule : SurvivalClock → Float → Censor → ℕ → Rescheduled
reschedule k now censor index = scheduled_for k now (final_event (earliest_event k now) now censor) index

-- an active clock settles every channel and withdraws its event; any other is left as it is
unfoldable pub pause : SurvivalClock → Float → Paused
pause k now =
    cond k.is_active
    (record {
      clock =
          with_schedule (with_channels k (on_used (settled now) k.channel_count k.channels) k.channel_count)
          not_scheduled k.current_winner false now;
      withdrawn = k.scheduled_event_id;
    })
    (record { clock = k; withdrawn = not_scheduled })

-- every channel starts a new interval, and the clock is rescheduled
unfoldable pub resume : SurvivalClock → Float → Censor → ℕ → Rescheduled
resume k now censor index =
    reschedule (with_channels k (on_used (restarted now) k.channel_count k.channels) k.channel_count) now censor
    index

-- the winner is taken with its piece, and the clock is idle; a censored event has piece 0, whatever the winner holds
unfoldable pub on_event_dispatched : SurvivalClock → Dispatched
on_event_dispatched k =
    let w = k.current_winner in
    let censored = eqb w.cause_id no_cause in
    record {
      clock = with_schedule k not_scheduled no_winner false k.last_update_time;
      event =
          cond w.present
          (realized w.cause_id (not_below_zero (sub binary64 w.time k.last_update_time)) censored (cond censored 0 w.piece))
          not_realized;
    }
