-- `validation::distinct_indices` meets its contract: at each turn no index is twice among the first i.
use mathlib.Core.Path.{◌≡◌}
use mathlib.Core.Bool.{true}
use lib.ListN.{take}
use Rattle.engine.specs.StateRows.{queue_from}
use Rattle.engine.specs.Validation.{distinct}
use Rattle.engine.proofs.validation.distinct_indices.Given as goal

abbrev pub invariant-loop-i : goal.invariant-loop-i
invariant-loop-i l = (distinct (take l.i (queue_from l.words)) ≡ true)
