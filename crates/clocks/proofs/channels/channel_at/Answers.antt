-- `channels::channel_at` meets its contract.
use Rattle.clocks.specs.Layout.{channel_from}
use Rattle.clocks.proofs.channels.channel_at.Goals as goal

pub returns : goal.returns
unfolding channel_from
returns c = rw (c.rate_of_kind.ensures, c.byte_from.ensures, c.u32_from-2.ensures, c.u32_from.ensures)
