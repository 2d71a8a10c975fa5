-- `comparison::same_state` meets its contract.
use native.Mathlib.Omega.{arith}
use Rattle.engine.specs.StateRows.{SizedState}
use Rattle.engine.proofs.SameRows.{same_rows}
use Rattle.engine.proofs.comparison.same_state.Goals as goal

pub returns : goal.returns
returns c =
    let a = c.args in
    let sized : SizedState a.a.now a.a_floats.now = record { words = omega arith; floats = omega arith } in
    rw (c.same_words-words.ensures, c.same_floats-floats.ensures)
    (same_rows a.a.now a.b.now a.a_floats.now a.b_floats.now c.requires.0 c.requires.1 sized)
