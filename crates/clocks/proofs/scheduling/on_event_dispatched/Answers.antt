-- `scheduling::on_event_dispatched` meets its contract: without a winner, with a censored one and with another.
use mathlib.Core.Path.{sym, ◌∙◌, ap}
use borrow.Author.Tests.{not-true, not-false}
use Rattle.clocks.specs.Layout.{clock_of, clock_from}
use Rattle.clocks.specs.Scheduling.{Dispatched}
use Rattle.clocks.specs.declared.clocks.Winner.{Winner}
use Rattle.clocks.proofs.RowLaws.{leaves_as}
use Rattle.clocks.proofs.SchedulingCases.{dispatched_none, dispatched_censored, dispatched_one}
use Rattle.clocks.proofs.scheduling.on_event_dispatched.Goals as goal

pub returns-then-not-winner : goal.returns-then-not-winner
unfolding clock_from clock_of
returns-then-not-winner c =
    let a = c.args in
    let won = ap (λ (w : Winner). w.present) (sym c.winner_in-winner.ensures) in
    let e = sym (dispatched_none (clock_from a.words.now a.floats.now) (won ∙ not-true _ c.if-not-winner.true)) in (
      leaves_as c.put_schedule.ensures
          (rw (c.not_scheduled.ensures, c.no_winner.ensures) (ap (λ (r : Dispatched). r.clock) e)),
      ap (λ (r : Dispatched). r.event) e,
    )

pub returns-then-winner : goal.returns-then-winner
unfolding clock_from clock_of
returns-then-winner c =
    let a = c.args in
    let won = ap (λ (w : Winner). w.present) (sym c.winner_in-winner.ensures) in
    let none = ap (λ (w : Winner). w.cause_id) (sym c.winner_in-winner.ensures) in
    let e =
    sym (dispatched_censored (clock_from a.words.now a.floats.now) (won ∙ not-false _ c.if-not-winner.false)
    (none ∙ c.if-winner.true)) in (
      leaves_as c.put_schedule.ensures
          (rw (c.not_scheduled.ensures, c.no_winner.ensures) (ap (λ (r : Dispatched). r.clock) e)),
      rw (c.realized.ensures, c.not_below_zero-delta.ensures, c.winner_in-winner.ensures) (ap (λ (r : Dispatched). r.event) e),
    )

pub returns : goal.returns
unfolding clock_from clock_of
returns c =
    let a = c.args in
    let won = ap (λ (w : Winner). w.present) (sym c.winner_in-winner.ensures) in
    let cause = ap (λ (w : Winner). w.cause_id) c.winner_in-winner.ensures in
    let e =
    sym (dispatched_one (clock_from a.words.now a.floats.now) (won ∙ not-false _ c.if-not-winner.false)
    (λ n. c.if-winner.false (cause ∙ n))) in (
      leaves_as c.put_schedule.ensures
          (rw (c.not_scheduled.ensures, c.no_winner.ensures) (ap (λ (r : Dispatched). r.clock) e)),
      rw (c.realized-2.ensures, c.not_below_zero-delta.ensures, c.winner_in-winner.ensures) (ap (λ (r : Dispatched). r.event) e),
    )
