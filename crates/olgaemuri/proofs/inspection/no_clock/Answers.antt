-- `inspection::no_clock` meets its contract.
use mathlib.Core.Path.{refl}
use lib.Ieee.{of_bits}
use Rattle.olgaemuri.proofs.inspection.no_clock.Goals as goal

pub returns : goal.returns
unfolding of_bits
returns c = refl
