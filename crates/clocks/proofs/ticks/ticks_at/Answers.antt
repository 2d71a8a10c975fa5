-- `ticks::ticks_at` meets its contract: the ticks of the product.
use Rattle.clocks.proofs.ticks.ticks_at.Goals as goal

pub returns : goal.returns
returns c = c.ticks_of.ensures
