-- `scheduling::pause` meets its contract: of a clock that is not active, and of one that is.
use mathlib.Core.Path.{ap}
use mathlib.Core.Bool.{false}
use borrow.Author.Tests.{eq-eqb, ne_eqb}
use Rattle.clocks.specs.Clocks.{SurvivalClock, not_scheduled, with_schedule}
use Rattle.clocks.specs.Layout.{clock_of, clock_from}
use Rattle.clocks.proofs.RowLaws.{leaves_then, leaves_none, leaves_as}
use Rattle.clocks.proofs.SchedulingCases.{pause_inactive, pause_active}
use Rattle.clocks.proofs.scheduling.pause.Goals as goal

pub returns-then-b-ne1 : goal.returns-then-b-ne1
unfolding clock_from clock_of
returns-then-b-ne1 c =
    let a = c.args in
    let k = clock_from a.words.now a.floats.now in
    let e = pause_inactive k a.time (ne_eqb _ _ c.if-b-ne1.true) in
    rw e (leaves_none a.words.now a.floats.now, c.not_scheduled.ensures)

pub returns : goal.returns
unfolding clock_from clock_of
returns c =
    let a = c.args in
    let k = clock_from a.words.now a.floats.now in
    let e = pause_active k a.time (eq-eqb _ _ c.if-b-ne1.false) in
    let p = c.settle.ensures in
    rw e (
      leaves_then p
          (leaves_as c.put_schedule.ensures
          (rw (c.not_scheduled-2.ensures, c.winner_in-winner.ensures)
          (ap (λ (x : SurvivalClock). with_schedule x not_scheduled x.current_winner false a.time) p.clock))),
      c.event_in.ensures,
    )
