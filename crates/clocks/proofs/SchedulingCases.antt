-- What final_event, scheduled_for, pause and on_event_dispatched are in each of their cases.
use mathlib.Core.Path.{◌≡◌}
use mathlib.Core.Bool.{Bool, true, false}
use Prim.Native.Nat.{ℕ}
use borrow.Author.Tests.{eq-eqb, ne_eqb}
use lib.Ieee.{Float, binary64, add, sub, le}
use Rattle.std.specs.Prelude.{Some, None}
use Rattle.hazards.specs.Floats.{not_below_zero}
use Rattle.hazards.specs.Refusals.{no_cause}
use Rattle.hazards.specs.declared.ties.Candidate.{Candidate}
use Rattle.clocks.specs.Ticks.{ticks_at}
use Rattle.clocks.specs.Channels.{settled, on_used}
use Rattle.clocks.specs.Clocks.{SurvivalClock, not_scheduled, no_winner, with_channels, with_schedule}
use Rattle.clocks.specs.Scheduling.{Censor, RealizedEvent, Dispatched, not_realized, realized, final_event, scheduled_for, pause, on_event_dispatched}
use Rattle.clocks.specs.Scheduling.{Rescheduled}
use Rattle.clocks.specs.declared.clocks.ScheduledEvent.{ScheduledEvent}

-- ---- without a candidate
module _ (now : Float) (censor : Censor) where
  pub no_candidate_no_censor : censor.present ≡ false → final_event None now censor ≡ not_realized
  unfolding final_event
  no_candidate_no_censor p = rw p

  pub no_candidate_late : censor.present ≡ true → le now censor.time ≡ false → final_event None now censor ≡ not_realized
  unfolding final_event
  no_candidate_late p l = rw (p, l)

  pub no_candidate_censored : censor.present ≡ true → le now censor.time ≡ true
      → final_event None now censor ≡ realized no_cause (sub binary64 censor.time now) true 0
  unfolding final_event
  no_candidate_censored p l = rw (p, l)

-- ---- with a candidate
module _ (c : Candidate) (now : Float) (censor : Censor) where
  pub found_no_censor : censor.present ≡ false
      → final_event (Some c) now censor ≡ realized c.cause_id (not_below_zero (sub binary64 c.time now)) false c.piece
  unfolding final_event
  found_no_censor p = rw p

  pub found_in_time : censor.present ≡ true → le c.time censor.time ≡ true
      → final_event (Some c) now censor ≡ realized c.cause_id (not_below_zero (sub binary64 c.time now)) false c.piece
  unfolding final_event
  found_in_time p l = rw (p, l)

  pub found_censored : censor.present ≡ true → le c.time censor.time ≡ false
      → final_event (Some c) now censor ≡ realized no_cause (not_below_zero (sub binary64 censor.time now)) true 0
  unfolding final_event
  found_censored p l = rw (p, l)

-- ---- the clock that is scheduled
module _ (k : SurvivalClock) (now : Float) (event : RealizedEvent) (index : ℕ) where
  abbrev pub unscheduled : ScheduledEvent → Rescheduled
  unscheduled none = record {
    clock = with_schedule k none k.current_winner k.is_active now;
    withdrawn = k.scheduled_event_id;
    event = event;
    ticks = record { low = 0; high = 0 };
  }

  abbrev pub scheduled : Rescheduled
  scheduled = record {
    clock =
        with_schedule k (record { present = true; index = index })
        (record {
          present = true;
          cause_id = event.winning_cause;
          time = add binary64 now event.delta_time;
          piece = event.piece;
        })
        true now;
    withdrawn = k.scheduled_event_id;
    event = event;
    ticks = ticks_at now event.delta_time k.tick_scale;
  }

  pub scheduled_none : event.present ≡ false → scheduled_for k now event index ≡ unscheduled not_scheduled
  unfolding scheduled_for
  scheduled_none p = rw p

  pub scheduled_one : event.present ≡ true → scheduled_for k now event index ≡ scheduled
  unfolding scheduled_for
  scheduled_one p = rw p

-- ---- the clock that is paused
module _ (k : SurvivalClock) (now : Float) where
  abbrev pub paused_clock : SurvivalClock
  paused_clock =
      with_schedule (with_channels k (on_used (settled now) k.channel_count k.channels) k.channel_count) not_scheduled
      k.current_winner false now

  pub pause_inactive : k.is_active ≡ false → pause k now ≡ record { clock = k; withdrawn = not_scheduled }
  unfolding pause
  pause_inactive p = rw p

  pub pause_active : k.is_active ≡ true → pause k now ≡ record { clock = paused_clock; withdrawn = k.scheduled_event_id }
  unfolding pause
  pause_active p = rw p

-- ---- the clock whose event was dispatched
module _ (k : SurvivalClock) where
  abbrev pub idle : RealizedEvent → Dispatched
  idle event = record { clock = with_schedule k not_scheduled no_winner false k.last_update_time; event = event }

  pub dispatched_none : k.current_winner.present ≡ false → on_event_dispatched k ≡ idle not_realized
  unfolding on_event_dispatched
  dispatched_none p = rw p

  abbrev pub delivered : Bool → ℕ → RealizedEvent
  delivered censored piece =
      realized k.current_winner.cause_id
      (not_below_zero (sub binary64 k.current_winner.time k.last_update_time)) censored piece

  pub dispatched_censored : k.current_winner.present ≡ true → k.current_winner.cause_id ≡ no_cause
      → on_event_dispatched k ≡ idle (delivered true 0)
  unfolding on_event_dispatched
  dispatched_censored p e = rw (p, eq-eqb _ _ e)

  pub dispatched_one : k.current_winner.present ≡ true → (k.current_winner.cause_id ≡ no_cause → ⊥)
      → on_event_dispatched k ≡ idle (delivered false k.current_winner.piece)
  unfolding on_event_dispatched
  dispatched_one p n = rw (p, ne_eqb _ _ n)
