-- `validation::settings_coded` meets its contract.
use mathlib.Core.Path.{refl}
use Rattle.clocks.specs.Layout.{coded_settings}
use Rattle.clocks.proofs.validation.settings_coded.Goals as goal

pub returns : goal.returns
unfolding coded_settings
returns c = refl
