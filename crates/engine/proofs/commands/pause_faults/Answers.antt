-- `commands::pause_faults` meets its contract.
use mathlib.Core.Path.{◌∙◌, ap}
use Rattle.hazards.specs.Floats.{is_time}
use Rattle.hazards.specs.Refusals.{range_fault_unless}
use Rattle.engine.specs.Commands.{pause_faults}
use Rattle.engine.proofs.CommandLaws.{joined_both}
use Rattle.engine.proofs.commands.pause_faults.Goals as goal

pub returns : goal.returns
unfolding pause_faults
returns c =
    joined_both c.joined.ensures
    (c.range_fault_unless.ensures ∙ ap range_fault_unless (c.is_time-now.ensures ∙ ap is_time c.f64_at.ensures))
    c.clock_faults.ensures
