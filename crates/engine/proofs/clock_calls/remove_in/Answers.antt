-- `clock_calls::remove_in` meets its contract.
use mathlib.Core.Path.{ap}
use native.Mathlib.Omega.{arith}
use Rattle.engine.specs.StateRows.{SizedState}
use Rattle.clocks.specs.Clocks.{remove_channel, SurvivalClock}
use Rattle.clocks.proofs.RowLaws.{leaves_as}
use Rattle.engine.proofs.CommandsInPlace.{clock_left, clock_there}
use Rattle.engine.proofs.clock_calls.remove_in.Goals as goal

pub returns : goal.returns
returns c =
    let call = c.remove_rows in
    let a = c.args in
    let w = a.words.now in
    let f = a.floats.now in
    let sized : SizedState w f = record { words = omega arith; floats = omega arith } in
    clock_left w f a.clock c.requires sized call.new.words call.new.floats call.auto.words call.auto.floats _
    (leaves_as call.ensures
    (ap (λ (k : SurvivalClock). remove_channel k a.cause) (clock_there w f a.clock c.requires)))
