-- `floats::zero_bits` meets its contract.
use mathlib.Core.Path.{refl, sym}
use lib.Ieee.{to_bits}
use Rattle.hazards.specs.Floats.{zero_bits}
use Rattle.hazards.proofs.Patterns.{is_nan_lem}
use Rattle.hazards.proofs.floats.zero_bits.Goals as goal

pub returns-then-not-is_nan : goal.returns-then-not-is_nan
unfolding zero_bits
returns-then-not-is_nan c = refl

pub returns-else-not-is_nan : goal.returns-else-not-is_nan
unfolding zero_bits to_bits
returns-else-not-is_nan c = rw (c.if-not-is_nan.false, is_nan_lem _ (sym c.if-not-is_nan.ensures.value)) refl
