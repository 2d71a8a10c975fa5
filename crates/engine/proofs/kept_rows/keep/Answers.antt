-- `kept_rows::keep` meets its contract.
use mathlib.Core.Path.{◌≡◌}
use lib.ListN.{length}
use native.Mathlib.Omega.{arith}
use Rattle.engine.specs.StateRows.{SizedState}
use Rattle.engine.proofs.KeptParts.{keeps_slot, keeps_shared, keeps_coded}
use Rattle.engine.proofs.kept_rows.keep.Goals as goal

pub returns : goal.returns
returns c =
    let a = c.args in
    let w = a.words.now in
    let f = a.floats.now in
    let k = a.clock in
    let old = a.kept.now in
    let here = c.copy_over in
    let rest = c.copy_over-2 in
    let floats = c.copy_over-3 in
    let sized : SizedState w f = record { words = omega arith; floats = omega arith } in
    let n : length old ≡ 27 = omega arith in (
      keeps_slot w f k c.requires sized old n here.new.to rest.new.to floats.new.to
          here.ensures rest.ensures floats.ensures,
      keeps_shared w f k c.requires sized old n here.new.to rest.new.to floats.new.to
          here.ensures rest.ensures floats.ensures,
      keeps_coded w f k c.requires sized old n here.new.to rest.new.to floats.new.to
          here.ensures rest.ensures floats.ensures,
    )
