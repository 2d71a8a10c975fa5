-- `channels::settled_hazard` meets its contract: what the channel's fields accumulate.
use Rattle.clocks.specs.Channels.{settled_hazard}
use Rattle.clocks.proofs.channels.settled_hazard.Goals as goal

pub returns : goal.returns
unfolding settled_hazard
returns c = c.accumulated_at.ensures
