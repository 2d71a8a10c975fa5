-- The library's 4 bytes of the number are the definition's.
use Rattle.hazards.proofs.FieldBytes.{writes_field}
use Rattle.hazards.proofs.fields.put_u32.Goals as goal

pub returns : goal.returns
returns c = let a = c.args in writes_field 4 a.bytes.now a.at a.x c.to_le_bytes.ensures c.put_field.ensures
