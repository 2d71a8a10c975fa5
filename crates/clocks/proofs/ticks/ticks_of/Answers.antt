-- `ticks::ticks_of` meets its contract: the two words are the remainder and the quotient by 2^64.
use Prim.Native.Nat.{◌^◌, ◌<◌}
use native.Mathlib.Omega.{arith}
use Rattle.clocks.specs.Ticks.{whole_ticks}
use Rattle.clocks.proofs.TickRounding.{two_words}
use Rattle.clocks.proofs.ticks.ticks_of.Goals as goal

pub returns : goal.returns
returns c =
    let r = c.words_of.result in
    let small : r.low < 2 ^ 64 = omega (arith, c.words_of.type_inv) in
    two_words (whole_ticks c.args.x) r small c.words_of.ensures
