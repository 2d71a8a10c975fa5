-- `validation::kind_coded` meets its contract: a rate is tested where the kind is 0.
use mathlib.Core.Path.{◌≡◌, sym, ◌∙◌}
use borrow.Author.Tests.{not-true, not-false, ne_eqb, lt-ltb}
use Rattle.clocks.specs.Layout.{spare_zero, coded_numbers}
use Rattle.clocks.proofs.validation.kind_coded.Goals as goal
use Rattle.clocks.proofs.validation.kind_coded.Goals.{then-kind-eq0+else-not-zero_bits, else-kind-eq0}

pub returns-then-not-zero_bits : goal.returns-then-not-zero_bits
unfolding coded_numbers
returns-then-not-zero_bits c = rw (c.if-kind-eq0.true, sym c.zero_bits.ensures ∙ not-true _ c.if-not-zero_bits.true-raw)

pub returns-then-kind-lt-KINDS : goal.returns-then-kind-lt-KINDS
unfolding coded_numbers
returns-then-kind-lt-KINDS c =
    let a = c.args in
    let e : spare_zero a.ns.now ≡ coded_numbers a.kind a.ns.now =
    elim c.if-kind-eq0.branch [
      | then-kind-eq0+else-not-zero_bits w ↦ rw (w.if-kind-eq0.true, sym w.zero_bits.ensures ∙ not-false _ w.if-not-zero_bits.false-raw)
      | else-kind-eq0 w ↦ rw (ne_eqb _ _ w.if-kind-eq0.false)
    ] in
    rw (lt-ltb _ _ c.if-kind-lt-KINDS.true) (c.spare_zero.ensures ∙ e)
