-- `scheduling::resume` meets its contract: the clock with new intervals, rescheduled.
use mathlib.Core.Path.{ap, ◌∙◌}
use Rattle.clocks.specs.Scheduling.{reschedule, resume}
use Rattle.clocks.specs.RowsInternals.{censor_from, queue_change}
use Rattle.clocks.specs.Clocks.{SurvivalClock}
use Rattle.clocks.proofs.RowLaws.{leaves_then, leaves_as}
use Rattle.clocks.proofs.scheduling.resume.Goals as goal

pub returns : goal.returns
unfolding resume
returns c =
    let a = c.args in
    let p = c.restart.ensures in
    let q = c.reschedule.ensures in (
      leaves_then p (leaves_as q.0 (ap (λ (k : SurvivalClock). (reschedule k a.time (censor_from a.censor) a.index).clock) p.clock)),
      q.1 ∙ ap (λ (k : SurvivalClock). queue_change (reschedule k a.time (censor_from a.censor) a.index)) p.clock,
    )
