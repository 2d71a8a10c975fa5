-- `theorem::one_nearest_root` meets its contract.
use Rattle.hazards.proofs.FloatRoots.{one_nearest}
use Rattle.hazards.proofs.theorem.one_nearest_root.Goals as goal

pub returns : goal.returns
returns c = one_nearest
