-- `fields::i32_at` meets its contract.
use mathlib.Core.Path.{◌∙◌, ap}
use mir.Facts.{to_z-of_z}
use mir.Syntax.{w32}
use mir.Val.{to_z, SFits}
use borrow.Author.Rules.{rules}
use Rattle.hazards.specs.Fields.{i32_at}
use Rattle.hazards.proofs.fields.i32_at.Goals as goal

pub returns : goal.returns
unfolding i32_at
returns c =
    let fits : SFits w32 c.i32_from.result = search rules in
    to_z-of_z fits ∙ (c.i32_from.ensures ∙ ap (to_z w32) c.u32_at.ensures)
