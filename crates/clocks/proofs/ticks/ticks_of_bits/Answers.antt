-- `ticks::ticks_of_bits` meets its contract: one law for each range of the patterns.
use native.Mathlib.Omega.{arith}
use mathlib.Core.Path.{sym, ◌∙◌}
use Prim.Native.Nat.{◌/◌, ◌%◌, ◌^◌}
use native.Mathlib.Nat.{add-zero, mod-lt}
use lib.Dec.{lit<}
use Rattle.clocks.proofs.TickValues.{fields, ticks_off, ticks_small, ticks_mid, ticks_whole, ticks_large}
use Rattle.clocks.proofs.ticks.ticks_of_bits.Goals as goal

pub returns-then-bits-gt9218868437227405312 : goal.returns-then-bits-gt9218868437227405312
returns-then-bits-gt9218868437227405312 c = sym (ticks_off c.args.bits (omega arith))

pub returns-then-exponent-lt1022 : goal.returns-then-exponent-lt1022
returns-then-exponent-lt1022 c =
    let bits = c.args.bits in
    sym (fields bits (omega arith) ∙ ticks_small (bits / 2 ^ 52) (bits % 2 ^ 52) c.if-exponent-lt1022.true (omega arith))

pub returns-then-exponent-gt1150 : goal.returns-then-exponent-gt1150
returns-then-exponent-gt1150 c = sym (ticks_large c.args.bits (omega arith) c.if-exponent-gt1150.true)

pub returns-then-exponent-lt1075 : goal.returns-then-exponent-lt1075
returns-then-exponent-lt1075 c =
    let bits = c.args.bits in
    add-zero _ ∙ c.rounded.ensures
    ∙ sym (fields bits c.if-bits-gt9218868437227405312.false
    ∙ ticks_mid (bits / 2 ^ 52) (bits % 2 ^ 52) c.if-exponent-lt1022.false c.if-exponent-lt1075.true (mod-lt bits (lit< tt)))

pub returns : goal.returns
returns c =
    let bits = c.args.bits in
    c.shifted.ensures
    ∙ sym (fields bits c.if-bits-gt9218868437227405312.false
    ∙ ticks_whole (bits / 2 ^ 52) (bits % 2 ^ 52) c.if-exponent-lt1075.false c.if-exponent-gt1150.false (mod-lt bits (lit< tt)))
