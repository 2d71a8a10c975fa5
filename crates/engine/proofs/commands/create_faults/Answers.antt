-- `commands::create_faults` meets its contract.
use Rattle.engine.specs.Commands.{create_faults}
use Rattle.engine.proofs.commands.create_faults.Goals as goal

pub returns : goal.returns
unfolding create_faults
returns c =
    rw (
      c.joined.ensures,
      c.clock_faults.ensures,
      c.in_range-scale.ensures,
      c.f64_at.ensures,
      c.has_fault-entity.ensures,
      c.unused_entity.ensures,
      c.byte_at.ensures,
      c.byte_at-tie.ensures,
      c.byte_at-policy.ensures,
    )
