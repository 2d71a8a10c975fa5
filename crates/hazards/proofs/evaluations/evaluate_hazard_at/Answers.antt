-- `evaluations::evaluate_hazard_at` meets its contract.
use Rattle.std.proofs.Common.{rules, refl}
use Rattle.hazards.specs.Checks.{lent_fields, hazard_of, intervals_of}
use Rattle.hazards.specs.Evaluations.{valued, without_value, evaluated_hazard_at}
use Rattle.hazards.specs.Rates.{hazard_at}
use Rattle.hazards.proofs.EvaluationLaws.{refused, evaluated_at}
use Rattle.hazards.proofs.RefusalLaws.{number_not_zero}
use Rattle.hazards.proofs.evaluations.evaluate_hazard_at.Goals as goal

pub returns-in_err-evaluation_refusal : goal.returns-in_err-evaluation_refusal
unfolding evaluated_hazard_at
returns-in_err-evaluation_refusal c =
    let a = c.args in
    let f = lent_fields a.hazard in
    let e = refused f c.in_err-evaluation_refusal.ensures c.in_range-in_limits.ensures without_value
    (valued (hazard_at (hazard_of f) (intervals_of f) a.t)) (number_not_zero c.in_err-evaluation_refusal.field-0.0) refl in
    search (rules, e)

pub returns : goal.returns
unfolding evaluated_hazard_at
returns c =
    let a = c.args in
    evaluated_at (lent_fields a.hazard) c.in_ok-evaluation_refusal.ensures c.in_range-in_limits.ensures hazard_at a.t refl c.hazard.ensures
    c.hazard_at.ensures refl
