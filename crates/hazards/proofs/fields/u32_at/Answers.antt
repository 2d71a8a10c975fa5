-- A word of 4 bytes, if it lies whole.
use mathlib.Core.Path.{◌∙◌}
use Rattle.hazards.proofs.FieldBytes.{reads_field, reads_none}
use Rattle.hazards.proofs.fields.u32_at.Goals as goal

pub returns-in-Some : goal.returns-in-Some
returns-in-Some c =
    let a = c.args in
    c.from_le_bytes.ensures ∙ reads_field 3 a.bytes.now a.at c.in-Some.ensures.0 c.in-Some.ensures.1

pub returns-in-None : goal.returns-in-None
returns-in-None c = reads_none 3 c.args.bytes.now c.args.at c.in-None.ensures
