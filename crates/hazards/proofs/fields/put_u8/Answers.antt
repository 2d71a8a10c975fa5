-- The byte is the number's one byte.
use mathlib.Core.List.{[], ◌∷◌}
use mathlib.Core.Path.{sym, ap}
use native.Mathlib.Nat.{mod-eq_of_lt}
use Prim.Native.Nat.{ℕ}
use Rattle.hazards.proofs.FieldBytes.{writes_field}
use Rattle.hazards.proofs.fields.put_u8.Goals as goal

pub returns : goal.returns
returns c =
    let a = c.args in
    writes_field 1 a.bytes.now a.at a.x (ap (λ (x : ℕ). x ∷ []) (sym (mod-eq_of_lt c.ranges.x.fits))) c.put_field.ensures
