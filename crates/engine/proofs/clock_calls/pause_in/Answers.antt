-- `clock_calls::pause_in` meets its contract.
use mathlib.Core.Path.{◌∙◌, ap}
use native.Mathlib.Omega.{arith}
use Rattle.engine.specs.StateRows.{SizedState}
use Rattle.clocks.specs.Scheduling as scheduling
use Rattle.clocks.specs.Clocks.{SurvivalClock}
use Rattle.clocks.proofs.RowLaws.{leaves_as}
use Rattle.engine.proofs.CommandsInPlace.{clock_left, clock_there}
use Rattle.engine.proofs.clock_calls.pause_in.Goals as goal

pub returns : goal.returns
returns c =
    let call = c.pause_rows in
    let a = c.args in
    let w = a.words.now in
    let f = a.floats.now in
    let sized : SizedState w f = record { words = omega arith; floats = omega arith } in
    let e = clock_there w f a.clock c.requires in (
      clock_left w f a.clock c.requires sized call.new.words call.new.floats call.auto.words call.auto.floats _
          (leaves_as call.ensures.0 (ap (λ (k : SurvivalClock). (scheduling.pause k a.time).clock) e)),
      call.ensures.1 ∙ ap (λ (k : SurvivalClock). (scheduling.pause k a.time).withdrawn) e,
    )
