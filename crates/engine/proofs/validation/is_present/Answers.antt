-- `validation::is_present` meets its contract.
use native.Mathlib.Omega.{arith}
use Rattle.engine.proofs.ValidStates.{part_row}
use Rattle.engine.proofs.validation.is_present.Goals as goal

pub returns : goal.returns
returns c = let a = c.args in rw (part_row 10 a.k 0 a.words.now (omega arith))
