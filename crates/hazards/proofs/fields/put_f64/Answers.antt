-- A number is written as its bits, the NaN as its quiet pattern.
use mathlib.Core.Path.{sym, ap, ◌∙◌}
use lib.Ieee.{binary64, to_bits}
use Rattle.hazards.specs.Fields.{with_field, with_f64}
use Rattle.hazards.proofs.Patterns.{is_nan_lem, nan-bits}
use Rattle.hazards.proofs.fields.put_f64.Goals as goal

pub returns-then-is_nan : goal.returns-then-is_nan
unfolding with_f64
returns-then-is_nan c =
    let a = c.args in
    c.put_u64.ensures
    ∙ ap (with_field 8 a.bytes.now a.at) (sym (ap (to_bits binary64) (is_nan_lem a.x (sym c.if-is_nan.ensures.value)) ∙ nan-bits))

pub returns-else-is_nan : goal.returns-else-is_nan
unfolding with_f64
returns-else-is_nan c = c.put_u64-else-is_nan.ensures
