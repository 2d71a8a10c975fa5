-- `ticks::rounded` meets its contract: the quotient of the definition, in which nothing wraps.
use native.Mathlib.Omega.{arith}
use lib.Pow.{pow_mono}
use Rattle.clocks.proofs.ticks.rounded.Goals as goal

pub overflow_mul-result-2 : goal.overflow_mul-result-2
overflow_mul-result-2 c = omega (arith, pow_mono c.requires.1)
