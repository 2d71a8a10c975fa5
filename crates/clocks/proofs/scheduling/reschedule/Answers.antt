-- `scheduling::reschedule` meets its contract: the three calls are the definition's.
use Rattle.clocks.specs.Scheduling.{reschedule}
use Rattle.clocks.proofs.scheduling.reschedule.Goals as goal

pub returns : goal.returns
unfolding reschedule
returns c = rw (← c.compute_earliest_event-earliest.ensures, ← c.final_event-event.ensures) c.schedule_event.ensures
