-- `evaluations::evaluate_inversion` meets its contract.
use mathlib.Core.Bool.{◌&&◌}
use mathlib.Core.Path.{◌≡◌, ◌∙◌, refl, ap}
use Rattle.std.proofs.Common.{rules}
use Rattle.hazards.specs.Checks.{lent_fields, hazard_of, intervals_of}
use Rattle.hazards.specs.Evaluations.{without_wait, inverted, evaluated_inversion}
use Rattle.hazards.specs.Floats.{in_range}
use Rattle.hazards.specs.Rates.{invert_cumulative_hazard}
use Rattle.hazards.specs.declared.rates.HazardRate.{HazardRate}
use Rattle.hazards.proofs.EvaluationLaws.{refused, evaluated}
use Rattle.hazards.proofs.RefusalLaws.{number_not_zero}
use Rattle.hazards.proofs.evaluations.evaluate_inversion.Goals as goal

pub returns-in_err-evaluation_refusal : goal.returns-in_err-evaluation_refusal
unfolding evaluated_inversion
returns-in_err-evaluation_refusal c =
    let a = c.args in
    let f = lent_fields a.hazard in
    let e : (c.in_range-start.result && c.in_range-w.result) ≡ (in_range a.t_start && in_range a.target_w) =
    rw (c.in_range-start.ensures, c.in_range-w.ensures) in
    let r = refused f c.in_err-evaluation_refusal.ensures e without_wait
    (inverted (invert_cumulative_hazard (hazard_of f) (intervals_of f) a.t_start a.target_w))
    (number_not_zero c.in_err-evaluation_refusal.field-0.0) refl in
    search (rules, r)

pub returns : goal.returns
unfolding evaluated_inversion
returns c =
    let a = c.args in
    let f = lent_fields a.hazard in
    let e : (c.in_range-start.result && c.in_range-w.result) ≡ (in_range a.t_start && in_range a.target_w) =
    rw (c.in_range-start.ensures, c.in_range-w.ensures) in
    evaluated f c.in_ok-evaluation_refusal.ensures e without_wait
    (inverted (invert_cumulative_hazard (hazard_of f) (intervals_of f) a.t_start a.target_w)) refl
    (ap inverted
    (c.invert_cumulative_hazard-found.ensures
    ∙ ap (λ (k : HazardRate). invert_cumulative_hazard k (intervals_of f) a.t_start a.target_w) c.hazard.ensures))
