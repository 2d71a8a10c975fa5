-- The patterns above an infinity's are the NaN's.
use mathlib.Core.Path.{sym, ap, ◌∙◌}
use lib.Ieee.{binary64, of_bits, div}
use Rattle.hazards.specs.Fields.{f64_at}
use Rattle.hazards.proofs.Patterns.{nan_pattern, number_pattern, zero_over_zero}
use Rattle.hazards.proofs.fields.f64_at.Goals as goal

pub returns-then-bits-gt9218868437227405312 : goal.returns-then-bits-gt9218868437227405312
unfolding f64_at of_bits div
returns-then-bits-gt9218868437227405312 c = zero_over_zero ∙ sym (nan_pattern c.u64_at-bits.result c.if-bits-gt9218868437227405312.true) ∙ ap (of_bits binary64) c.u64_at-bits.ensures

pub float_from_bits-result : goal.float_from_bits-result
float_from_bits-result c = number_pattern c.u64_at-bits.result c.if-bits-gt9218868437227405312.false

pub returns : goal.returns
unfolding f64_at
returns c = ap (of_bits binary64) c.u64_at-bits.ensures
