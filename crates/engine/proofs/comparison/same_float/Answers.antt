-- `comparison::same_float` meets its contract.
use Rattle.std.proofs.Common.{rules}
use Rattle.engine.specs.Comparison.{same_float}
use Rattle.engine.proofs.comparison.same_float.Goals as goal

pub returns-then-is_nan : goal.returns-then-is_nan
unfolding same_float
returns-then-is_nan c = search rules

pub returns-then-is_nan-2 : goal.returns-then-is_nan-2
unfolding same_float
returns-then-is_nan-2 c = search rules

pub returns : goal.returns
unfolding same_float
returns c = search rules
