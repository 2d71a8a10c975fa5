-- `validation::valid_requests` meets its contract: at each turn the requests from i on pass where all pass.
use mathlib.Core.Path.{◌≡◌}
use lib.ListN.{take, drop}
use Rattle.hazards.specs.Lists.{all}
use Rattle.clocks.specs.Layout.{FloatRows}
use Rattle.engine.specs.StateRows.{queue_from, state_from}
use Rattle.engine.specs.Validation.{valid_request}
use Rattle.engine.proofs.validation.valid_requests.Given as goal

abbrev pub invariant-loop-i : goal.invariant-loop-i
invariant-loop-i l =
    ((floats : FloatRows)
    → all (valid_request (state_from l.words floats)) (drop l.i (take l.queued (queue_from l.words)))
    ≡ all (valid_request (state_from l.words floats)) (take l.queued (queue_from l.words)))
