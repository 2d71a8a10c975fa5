-- `commands::reschedule_faults` meets its contract.
use Rattle.engine.specs.Commands.{reschedule_faults}
use Rattle.engine.proofs.commands.reschedule_faults.Goals as goal

pub returns : goal.returns
unfolding reschedule_faults
returns c =
    rw (
      c.joined.ensures,
      c.clock_faults.ensures,
      c.has_fault.ensures,
      c.zero_bits.ensures,
      c.byte_at.ensures,
      c.is_time-time.ensures,
      c.f64_at-censor.ensures,
      c.is_time-now.ensures,
      c.f64_at.ensures,
    )
