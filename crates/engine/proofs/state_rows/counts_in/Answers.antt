-- `state_rows::counts_in` meets its contract: by computing it.
use mathlib.Core.Path.{refl}
use Rattle.engine.specs.StateRows.{shared_of, shared_from}
use Rattle.engine.proofs.state_rows.counts_in.Goals as goal

pub returns : goal.returns
unfolding shared_from shared_of
returns c = refl
