-- `theorem::constant_hazard` meets its contract.
use Rattle.hazards.proofs.ConstantWaits.{constant_hazard}
use Rattle.hazards.proofs.theorem.constant_hazard.Goals as goal

pub returns : goal.returns
returns c = constant_hazard
