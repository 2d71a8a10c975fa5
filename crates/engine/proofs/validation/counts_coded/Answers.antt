-- `validation::counts_coded` meets its contract.
use mathlib.Core.Path.{refl}
use Rattle.engine.specs.StateRows.{coded_counts}
use Rattle.engine.proofs.validation.counts_coded.Goals as goal

pub returns : goal.returns
unfolding coded_counts
returns c = refl
