-- `evaluations::evaluate_cumulative_hazard` meets its contract.
use Rattle.std.proofs.Common.{rules, refl}
use Rattle.hazards.specs.Checks.{lent_fields, hazard_of, intervals_of}
use Rattle.hazards.specs.Evaluations.{valued, without_value, evaluated_cumulative_hazard}
use Rattle.hazards.specs.Rates.{cumulative_hazard}
use Rattle.hazards.proofs.EvaluationLaws.{refused, evaluated_at}
use Rattle.hazards.proofs.RefusalLaws.{number_not_zero}
use Rattle.hazards.proofs.evaluations.evaluate_cumulative_hazard.Goals as goal

pub returns-in_err-evaluation_refusal : goal.returns-in_err-evaluation_refusal
unfolding evaluated_cumulative_hazard
returns-in_err-evaluation_refusal c =
    let a = c.args in
    let f = lent_fields a.hazard in
    let e = refused f c.in_err-evaluation_refusal.ensures c.in_range.ensures without_value
    (valued (cumulative_hazard (hazard_of f) (intervals_of f) a.t)) (number_not_zero c.in_err-evaluation_refusal.field-0.0) refl in
    search (rules, e)

pub returns : goal.returns
unfolding evaluated_cumulative_hazard
returns c =
    let a = c.args in
    evaluated_at (lent_fields a.hazard) c.in_ok-evaluation_refusal.ensures c.in_range.ensures cumulative_hazard a.t refl c.hazard.ensures
    c.cumulative_hazard.ensures refl
