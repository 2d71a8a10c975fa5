-- `validation::schedule_coded` meets its contract.
use mathlib.Core.Path.{refl}
use Rattle.clocks.specs.Layout.{coded_schedule}
use Rattle.clocks.proofs.validation.schedule_coded.Goals as goal

pub returns : goal.returns
unfolding coded_schedule
returns c = refl
