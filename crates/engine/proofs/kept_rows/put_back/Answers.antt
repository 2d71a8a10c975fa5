-- `kept_rows::put_back` meets its contract.
use native.Mathlib.Omega.{arith}
use Rattle.engine.specs.KeptRows.{SizedKept}
use Rattle.engine.specs.StateRows.{SizedState}
use Rattle.engine.proofs.KeptParts.{puts_back, puts_coded}
use Rattle.engine.proofs.kept_rows.put_back.Goals as goal

pub returns : goal.returns
returns c =
    let a = c.args in
    let w = a.words.now in
    let f = a.floats.now in
    let k = a.clock in
    let here = c.copy_over in
    let rest = c.copy_over-2 in
    let floats = c.copy_over-3 in
    let sized : SizedState w f = record { words = omega arith; floats = omega arith } in
    let kept : SizedKept a.kept.now a.kept_floats.now = record { words = omega arith; floats = omega arith } in (
      puts_back w f k c.requires sized a.kept.now a.kept_floats.now kept here.new.to rest.new.to
          floats.new.to here.auto.to floats.auto.to here.ensures rest.ensures floats.ensures,
      puts_coded w f k c.requires sized a.kept.now a.kept_floats.now kept here.new.to rest.new.to
          floats.new.to here.auto.to floats.auto.to here.ensures rest.ensures floats.ensures,
    )
