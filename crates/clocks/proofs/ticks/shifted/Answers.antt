-- `ticks::shifted` meets its contract: the product lies in the low word, across both, or in the high word.
use native.Mathlib.Omega.{arith}
use Prim.Native.Nat.{◌-◌}
use native.Mathlib.Nat.{zero-add}
use Rattle.clocks.proofs.TickRounding.{small_shift, split_fits, split-sum, high_shift}
use Rattle.clocks.proofs.ticks.shifted.Goals as goal

pub overflow_mul-result : goal.overflow_mul-result
overflow_mul-result c = record { fits = rw c.power_of_two.ensures (small_shift c.args.digits c.args.e c.requires.0 (omega arith)) }

pub overflow_mul-result-then-e-lt64 : goal.overflow_mul-result-then-e-lt64
overflow_mul-result-then-e-lt64 c =
    let a = c.args in
    record { fits = rw (c.power_of_two-unit.ensures, c.power_of_two-then-e-lt64.ensures) (split_fits a.digits a.e (omega arith)) }

pub returns-then-e-lt64 : goal.returns-then-e-lt64
returns-then-e-lt64 c =
    let a = c.args in
    rw (c.power_of_two-unit.ensures, c.power_of_two-then-e-lt64.ensures) (split-sum a.digits a.e (omega arith))

pub overflow_mul-result-2 : goal.overflow_mul-result-2
overflow_mul-result-2 c = record { fits = rw c.power_of_two-2.ensures (small_shift c.args.digits (c.args.e - 64) c.requires.0 (omega arith)) }

pub returns : goal.returns
returns c =
    let a = c.args in
    rw (c.power_of_two-2.ensures, zero-add) (high_shift a.digits a.e (omega arith))
