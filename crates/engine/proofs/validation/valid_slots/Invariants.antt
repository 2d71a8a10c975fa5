-- `validation::valid_slots` meets its contract: at each turn the slots from k on pass where all pass.
use mathlib.Core.Path.{◌≡◌}
use lib.ListN.{drop}
use Rattle.hazards.specs.Lists.{all}
use Rattle.engine.specs.StateRows.{state_from}
use Rattle.engine.specs.Validation.{valid_slot}
use Rattle.engine.proofs.validation.valid_slots.Given as goal

abbrev pub invariant-loop-k : goal.invariant-loop-k
invariant-loop-k l = (all valid_slot (drop l.k (state_from l.words l.floats).slots) ≡ all valid_slot (state_from l.words l.floats).slots)
