-- `roots::guess` meets its contract: both floats whose bits are used are numbers.
use native.Mathlib.Omega.{arith}
use Rattle.hazards.proofs.Patterns.{number_pattern}
use Rattle.hazards.proofs.roots.guess.Goals as goal

pub float_from_bits-x : goal.float_from_bits-x
float_from_bits-x c = number_pattern _ (omega arith)
