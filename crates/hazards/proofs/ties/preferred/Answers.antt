-- `ties::preferred` meets its contract.
use Rattle.hazards.specs.Ties.{preferred}
use Rattle.hazards.proofs.ties.preferred.Goals as goal

pub returns-in-LowestCauseId : goal.returns-in-LowestCauseId
unfolding preferred
returns-in-LowestCauseId c = rw c.in-LowestCauseId.is

pub returns-in-HighestCauseId : goal.returns-in-HighestCauseId
unfolding preferred
returns-in-HighestCauseId c = rw c.in-HighestCauseId.is
