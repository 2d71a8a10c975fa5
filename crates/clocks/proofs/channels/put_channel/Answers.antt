-- `channels::put_channel` meets its contract: four rows are stored.
use mathlib.Core.Path.{ap}
use native.Mathlib.Omega.{arith}
use lib.Ieee.{of_bits}
use Rattle.clocks.specs.Layout.{clock_from, Sized}
use Rattle.clocks.specs.declared.channels.HazardChannelState.{HazardChannelState}
use Rattle.clocks.proofs.RowLaws.{with_channel_at, leaves_as}
use Rattle.clocks.proofs.ChannelStores.{words_of, numbers_of, channel_back, stored_coded, rows_stored}
use Rattle.clocks.proofs.channels.put_channel.Goals as goal

pub returns : goal.returns
unfolding of_bits
returns c =
    let a = c.args in
    let k : HazardChannelState = a.c in
    let sized : Sized a.words.now a.floats.now = record { words = omega arith; floats = omega arith } in
    leaves_as
    (rw (c.own_rate-rate.ensures, c.kind_number-kind.ensures)
    (rows_stored a.words.now a.floats.now a.j c.requires sized (words_of k) (numbers_of k)
    k.intervals.ends k.intervals.rates
    (λ h. stored_coded k (omega arith) (omega arith))))
    (ap (with_channel_at (clock_from a.words.now a.floats.now) a.j) (channel_back k (omega arith) (omega arith)))
