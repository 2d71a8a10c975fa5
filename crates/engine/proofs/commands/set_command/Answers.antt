-- `commands::set_command` meets its contract.
use mathlib.Core.Path.{◌∙◌, ap}
use Rattle.hazards.specs.Checks.{hazard_faults}
use Rattle.hazards.specs.Floats.{is_time}
use Rattle.hazards.specs.Refusals.{range_fault_unless}
use Rattle.engine.specs.Commands.{set_faults}
use Rattle.engine.proofs.CommandLaws.{joined_both}
use Rattle.engine.proofs.commands.set_command.Goals as goal

pub returns : goal.returns
unfolding set_faults
returns c =
    let fields = c.hazard_fields-fields.ensures in (
      joined_both c.joined-faults.ensures (c.faults.ensures ∙ ap hazard_faults fields)
          (joined_both c.joined-rest.ensures
          (c.range_fault_unless.ensures ∙ ap range_fault_unless (c.is_time-now.ensures ∙ ap is_time c.f64_at-time.ensures))
          c.cause_faults.ensures),
      rw (
        c.hazard-hazard.ensures,
        c.intervals-intervals.ensures,
        fields,
        c.u32_at.ensures,
        c.u32_at-2.ensures,
        c.f64_at-time.ensures,
      ),
    )
