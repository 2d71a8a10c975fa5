-- `validation::times_coded` meets its contract.
use mathlib.Core.Path.{sym, ◌∙◌}
use Rattle.clocks.specs.Layout.{coded_times}
use Rattle.clocks.proofs.validation.times_coded.Goals as goal

pub returns-then-zero_bits : goal.returns-then-zero_bits
unfolding coded_times
returns-then-zero_bits c = rw (sym c.zero_bits.ensures ∙ c.if-zero_bits.true, c.spare_zero.ensures)

pub returns-else-zero_bits : goal.returns-else-zero_bits
unfolding coded_times
returns-else-zero_bits c = rw (sym c.zero_bits.ensures ∙ c.if-zero_bits.false) c.if-zero_bits.false
