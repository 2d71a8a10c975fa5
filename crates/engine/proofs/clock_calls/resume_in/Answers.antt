-- `clock_calls::resume_in` meets its contract.
use mathlib.Core.Path.{◌∙◌, ap}
use native.Mathlib.Omega.{arith}
use Rattle.engine.specs.StateRows.{SizedState}
use Rattle.clocks.specs.Scheduling as scheduling
use Rattle.clocks.specs.RowsInternals.{queue_change, censor_from}
use Rattle.clocks.specs.Clocks.{SurvivalClock}
use Rattle.clocks.proofs.RowLaws.{leaves_as}
use Rattle.engine.specs.StateRows.{shared_of, shared_from}
use Rattle.engine.proofs.CommandsInPlace.{clock_left, clock_there}
use Rattle.engine.proofs.clock_calls.resume_in.Goals as goal

pub returns : goal.returns
unfolding shared_from shared_of
returns c =
    let call = c.resume_rows in
    let a = c.args in
    let w = a.words.now in
    let f = a.floats.now in
    let sized : SizedState w f = record { words = omega arith; floats = omega arith } in
    let n = (shared_from w).request_count in
    let e = clock_there w f a.clock c.requires in (
      clock_left w f a.clock c.requires sized call.new.words call.new.floats call.auto.words call.auto.floats _
          (leaves_as call.ensures.0 (ap (λ (k : SurvivalClock). (scheduling.resume k a.time (censor_from a.censor) n).clock) e)),
      call.ensures.1 ∙ ap (λ (k : SurvivalClock). queue_change (scheduling.resume k a.time (censor_from a.censor) n)) e,
    )
