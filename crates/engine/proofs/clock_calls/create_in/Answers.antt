-- `clock_calls::create_in` meets its contract.
use mathlib.Core.Path.{◌≡◌, ◌∙◌, ap}
use native.Mathlib.Omega.{arith}
use Rattle.engine.specs.StateRows.{SizedState}
use Rattle.engine.specs.Commands.{created_clock}
use Rattle.engine.specs.State.{with_slot, ClockSlot}
use Rattle.engine.specs.Execution.{holding}
use Rattle.engine.specs.StateRows.{slot_of, shared_from, state_from}
use Rattle.engine.proofs.CommandsInPlace.{slot_left, shared_kept, slot_left_coded}
use Rattle.engine.proofs.clock_calls.create_in.Goals as goal

pub returns : goal.returns
unfolding slot_of
returns c =
    let call = c.create_clock in
    let a = c.args in
    let w = a.words.now in
    let f = a.floats.now in
    let sized : SizedState w f = record { words = omega arith; floats = omega arith } in
    let e = call.ensures in
    let here : slot_of call.new.words call.new.floats ≡ holding (created_clock a.command.now) =
    (λ i. record { present = e.1 i; clock = e.0 i }) in (
      slot_left w f a.clock c.requires sized call.new.words call.new.floats call.auto.words call.auto.floats
          ∙ ap (λ (x : ClockSlot). with_slot (state_from w f) a.clock x (shared_from w)) here,
      shared_kept w f a.clock c.requires sized call.new.words call.new.floats call.auto.words call.auto.floats,
      λ h.
          slot_left_coded w f a.clock c.requires sized call.new.words call.new.floats call.auto.words call.auto.floats h
          e.2,
    )
