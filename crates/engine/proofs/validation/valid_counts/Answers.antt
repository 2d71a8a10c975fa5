-- `validation::valid_counts` meets its contract: by computing it.
use mathlib.Core.Path.{refl}
use Rattle.engine.specs.StateRows.{shared_of}
use Rattle.engine.specs.Validation.{valid_shared}
use Rattle.engine.proofs.validation.valid_counts.Goals as goal

pub returns : goal.returns
unfolding valid_shared shared_of
returns c = λ queue. refl
