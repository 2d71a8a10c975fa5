-- `roots::with_all_digits` meets its contract: a shift and as many powers less keep the value.
use Rattle.hazards.proofs.WholeRoots.{places, all_digits}
use Rattle.hazards.proofs.roots.with_all_digits.Goals as goal

pub overflow_sub-shift : goal.overflow_sub-shift
overflow_sub-shift c = let k = c.ilog2-shift in places c.args.n k.result k.ensures.power_le k.ensures.next_power_gt c.requires.1

pub returns : goal.returns
returns c =
    let k = c.ilog2-shift in
    rw c.from.ensures (all_digits c.args.n k.result k.ensures.power_le k.ensures.next_power_gt c.requires.1)
