-- `state_rows::request_at` meets its contract.
use mathlib.Core.Path.{sym, ◌∙◌, ap}
use mir.Syntax.{w32}
use mir.Val.{to_z}
use Rattle.engine.specs.StateRows.{request_from}
use Rattle.engine.proofs.QueueLaws.{reads_back}
use Rattle.engine.proofs.state_rows.request_at.Goals as goal

pub returns : goal.returns
unfolding request_from
returns c =
    let priority = sym (reads_back c.i32_from.result c.i32_from.type_inv) in
    rw (priority ∙ (c.i32_from.ensures ∙ ap (to_z w32) c.u32_from.ensures))
