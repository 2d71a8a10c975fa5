-- `validation::request_coded` meets its contract.
use mathlib.Core.Path.{refl}
use Rattle.engine.specs.StateRows.{coded_request}
use Rattle.engine.proofs.validation.request_coded.Goals as goal

pub returns : goal.returns
unfolding coded_request
returns c = refl
