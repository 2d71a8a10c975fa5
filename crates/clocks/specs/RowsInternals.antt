-- What the code's answers mean where the clock lies in rows: whether SET has a place for a cause, asked before anything is stored, and the
-- outcomes of Setting and Scheduling without their clock.
use Rattle.std.specs.Prelude.{Bool, true, false, cond, ℕ, ltb, Float, Option, Some, None, Result, Ok, Err}
use Rattle.clocks.specs.Channels.{place_of_cause}
use Rattle.clocks.specs.Clocks.{SurvivalClock, used_channels}
use Rattle.hazards.specs.Floats.{z}
use Rattle.clocks.specs.Scheduling.{Censor, RealizedEvent, Rescheduled, not_realized, realized}
use Rattle.clocks.specs.Setting.{ChannelSet}
use Rattle.clocks.specs.declared.clocks.ScheduledEvent.{ScheduledEvent}
use Rattle.clocks.specs.declared.scheduling.QueueChange as code_change
use Rattle.clocks.specs.declared.scheduling.RealizedEvent as code_event
use Rattle.clocks.specs.declared.ticks.Ticks.{Ticks}
use Rattle.hazards.specs.Refusals.{number}
use Rattle.hazards.specs.declared.refusals.Refusal.{Refusal}

-- whether the clock has a cause, or a place for it
unfoldable pub takes_cause : SurvivalClock → ℕ → Bool
takes_cause k cause =
    elim (place_of_cause cause (used_channels k)) [
      | Some at ↦ true
      | None ↦ ltb k.channel_count 8
    ]

-- the refusal or 0, and the draw position after it
pub record ChannelDraw : Type 0 where
  pub number : ℕ
  pub position : ℕ

-- the outcome without the clock
abbrev pub channel_draw : ChannelSet → ChannelDraw
channel_draw r = record { number = r.number; position = r.position }

-- the event that is withdrawn, and the event that is asked for, with its ticks
pub record QueueChange : Type 0 where
  pub withdrawn : ScheduledEvent
  pub event : RealizedEvent
  pub ticks : Ticks

-- what a clock that is rescheduled asks of the queue
abbrev pub queue_change : Rescheduled → QueueChange
queue_change r = record { withdrawn = r.withdrawn; event = r.event; ticks = r.ticks }

-- ---- what the code's values stand for

abbrev pub censor_from : Option Float → Censor
censor_from (Some time) = record { present = true; time = time }
censor_from None = record { present = false; time = z }

abbrev pub censor_time : Censor → Option Float
censor_time c = cond c.present (Some c.time) None

-- with the position that the call was given: a refusal leaves it
abbrev pub channel_drawn : ℕ → Result ℕ Refusal → ChannelDraw
channel_drawn position (Ok next) = record { number = 0; position = next }
channel_drawn position (Err refusal) = record { number = number refusal; position = position }

abbrev pub event_from : Option code_event.RealizedEvent → RealizedEvent
event_from (Some e) = realized e.winning_cause e.delta_time e.is_censored e.piece
event_from None = not_realized

abbrev pub change_from : code_change.QueueChange → QueueChange
change_from c = record { withdrawn = c.withdrawn; event = event_from c.event; ticks = c.ticks }
