-- `validation::valid_channel` meets its contract.
use mathlib.Core.List.{[]}
use Prim.Native.Nat.{◌+◌, ◌*◌}
use lib.ListN.{get_or}
use Rattle.clocks.specs.Layout.{channel_from}
use Rattle.clocks.specs.Validation.{valid_channel}
use Rattle.clocks.proofs.validation.valid_channel.Goals as goal

pub returns : goal.returns
unfolding valid_channel channel_from
returns c =
    let a = c.args in
    rw (
      c.range_fault-range.ensures (get_or a.floats.now (2 + 3 * a.j) []),
      c.intervals_fault-intervals.ensures,
      c.all_finite-finite.ensures,
      c.rate_of_kind-hazard.ensures,
      c.byte_from.ensures,
    )
