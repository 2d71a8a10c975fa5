-- `state_rows::request_row` meets its contract: a priority's bits are read back as the priority.
use mathlib.Core.Path.{sym, ◌∙◌, ap}
use native.Mathlib.Omega.{arith}
use lib.IntN.{ℤ}
use mir.Syntax.{w32}
use mir.Val.{to_z, of_z}
use Rattle.engine.proofs.QueueLaws.{reads_back}
use Rattle.engine.proofs.RequestRows.{row_of}
use Rattle.engine.proofs.state_rows.request_row.Goals as goal

pub returns : goal.returns
returns c =
    let p = reads_back c.args.r.priority c.well_formed.0.1.1.1.1.0.1 in
    row_of c.args.r c.bits_of_i32.result
    (ap (to_z w32) c.bits_of_i32.ensures ∙ sym (p ∙ ap (λ (z : ℤ). to_z w32 (of_z w32 z)) p)) (omega (arith, c.bits_of_i32.type_inv))
