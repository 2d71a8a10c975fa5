-- `validation::all_finite` meets its contract.
use mathlib.Core.Path.{◌∙◌}
use Rattle.clocks.proofs.ValidRows.{finite_is}
use Rattle.clocks.proofs.validation.all_finite.Goals as goal

pub returns : goal.returns
returns c =
    let a = c.args in
    rw (
      c.is_finite.ensures.value ∙ finite_is a.a,
      c.is_finite-2.ensures.value ∙ finite_is a.b,
      c.is_finite-3.ensures.value ∙ finite_is a.c,
    )
