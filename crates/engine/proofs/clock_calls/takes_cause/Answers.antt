-- `clock_calls::takes_cause` meets its contract.
use mathlib.Core.Path.{◌∙◌, ap}
use Prim.Native.Nat.{◌*◌}
use lib.ListN.{take, drop}
use Rattle.clocks.specs.RowsInternals.{takes_cause}
use Rattle.clocks.specs.Clocks.{SurvivalClock}
use Rattle.engine.proofs.CommandsInPlace.{floats_lent, clock_there}
use Rattle.engine.proofs.clock_calls.takes_cause.Goals as goal

pub returns : goal.returns
returns c =
    λ floats.
    let a = c.args in
    let rows = rw c.unwrap.ensures at c.as_array-rows.ensures.cases in
    (rw rows.same at c.takes_cause.ensures (take (floats_lent a.clock) (drop (25 * a.clock) floats)))
    ∙ ap (λ (k : SurvivalClock). takes_cause k a.cause) (clock_there a.words.now floats a.clock c.requires)
