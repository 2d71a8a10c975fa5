-- `roots::digits_of` meets its contract: a subnormal's digits are made 53, the others have them.
use native.Mathlib.Omega.{arith}
use Rattle.hazards.proofs.NearestRoots.{subnormal_digits, normal_digits}
use Rattle.hazards.proofs.roots.digits_of.Goals as goal

pub returns-then-exponent-eq0 : goal.returns-then-exponent-eq0
returns-then-exponent-eq0 c =
    let d = c.with_all_digits in
    let f = d.ensures in (
      subnormal_digits c.args.pattern d.result.digits d.result.power c.if-exponent-eq0.true f.0,
      f.1,
      f.2,
      f.3,
      f.4,
    )

pub returns : goal.returns
returns c = (normal_digits c.args.pattern (omega arith), omega arith, omega arith, omega arith, omega arith)
