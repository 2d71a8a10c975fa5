-- `ticks::words_of` meets its contract: a NaN, or the bits of a number.
use mathlib.Core.Path.{sym, ap, subst, ◌∙◌}
use lib.Dec.{T}
use lib.Ieee.{binary64}
use lib.Ieee.Bits.{of_bits-to_bits}
use Rattle.clocks.specs.Ticks.{whole_ticks}
use Rattle.clocks.proofs.TickValues.{nan_ticks}
use Rattle.clocks.proofs.ticks.words_of.Goals as goal

pub returns-then-is_nan : goal.returns-then-is_nan
returns-then-is_nan c = sym (nan_ticks _ (sym c.is_nan.ensures.value ∙ c.if-is_nan.true))

pub returns : goal.returns
returns c = c.ticks_of_bits.ensures ∙ ap whole_ticks (of_bits-to_bits binary64 c.args.x (subst T (sym c.well_formed.0.1) tt))
