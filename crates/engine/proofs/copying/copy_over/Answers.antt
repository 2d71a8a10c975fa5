-- `copying::copy_over` meets its contract: at each turn the first i elements are those of `from`, and the rest are as they were.
use mathlib.Core.Path.{refl, ◌∙◌, ap}
use native.Mathlib.Omega.{arith}
use lib.ListN.{set, length-set}
use Rattle.engine.proofs.Overwritten.{copy_next, copy-all}
use Rattle.engine.proofs.copying.copy_over.Goals as goal

pub loop-i-init : goal.loop-i-init
loop-i-init g c = (refl, refl)

pub loop-i-preserved : goal.loop-i-preserved
loop-i-preserved g c =
    let l = c.loop-i in
    let a = c.args in (
      ap (λ v. set l.to l.i v) c.index-from-i.is
          ∙ copy_next a.from.now a.to.now l.to l.i c.index-from-i.result (omega arith) (omega arith) l.invariant.0,
      length-set l.to l.i _ ∙ l.invariant.1,
    )

pub returns : goal.returns
returns g c =
    let l = c.loop-i in
    let a = c.args in
    copy-all a.from.now a.to.now l.to l.i (omega arith) c.requires l.invariant.0
