-- `scheduling::schedule_event` meets its contract: without an event and with one.
use mathlib.Core.Path.{refl, sym, ap}
use Rattle.std.specs.Prelude.{Some}
use Rattle.clocks.specs.Layout.{clock_of, clock_from}
use Rattle.clocks.specs.Scheduling.{Rescheduled}
use Rattle.clocks.specs.RowsInternals.{event_from, queue_change}
use Rattle.clocks.proofs.RowLaws.{leaves_as}
use Rattle.clocks.proofs.SchedulingCases.{scheduled_none, scheduled_one}
use Rattle.clocks.proofs.scheduling.schedule_event.Goals as goal

pub returns-in_default : goal.returns-in_default
unfolding clock_from clock_of
returns-in_default c =
    let a = c.args in
    let k = clock_from a.words.now a.floats.now in
    let e = sym (scheduled_none k a.time (event_from a.event) a.index (rw c.in_default.is)) in (
      leaves_as c.put_schedule.ensures
          (rw (c.not_scheduled.ensures, c.winner_in-winner.ensures) (ap (λ (r : Rescheduled). r.clock) e)),
      rw c.event_in-withdrawn.ensures (ap queue_change e),
    )

pub returns : goal.returns
unfolding clock_from clock_of
returns c =
    let a = c.args in
    let k = clock_from a.words.now a.floats.now in
    let e = sym (scheduled_one k a.time (event_from (Some c.in-Some.next)) a.index refl) in
    rw c.in-Some.is (
      leaves_as c.put_schedule-2.ensures (ap (λ (r : Rescheduled). r.clock) e),
      rw (c.ticks_at-ticks.ensures, c.event_in-withdrawn.ensures) (ap queue_change e),
    )
