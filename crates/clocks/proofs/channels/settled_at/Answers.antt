-- `channels::settled_at` meets its contract.
use mathlib.Core.Path.{◌∙◌}
use Rattle.clocks.specs.Channels.{settled_hazard}
use Rattle.clocks.specs.Layout.{channel_from}
use Rattle.clocks.proofs.channels.settled_at.Goals as goal

pub returns : goal.returns
unfolding settled_hazard channel_from
returns c =
    c.accumulated_at.ensures
    ∙ rw (c.rate_of_kind-hazard.ensures, c.byte_from.ensures)
