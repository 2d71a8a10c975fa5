-- `records::examined_single_rate` meets its contract.
use Rattle.hazards.specs.Rates.{intervals_from, invert_cumulative_hazard}
use Rattle.hazards.specs.Checks.{lent_fields, hazard_of, intervals_of, hazard_faults}
use Rattle.hazards.specs.declared.checks.HazardFields.{HazardFields}
use Rattle.hazards.specs.declared.rates.HazardRate.{HazardRate}
use Rattle.hazards.proofs.CheckLaws.{single_wait}
use Rattle.hazards.proofs.SamplerLaws.{examined_is}
use mathlib.Core.Path.{◌∙◌, ap}
use Rattle.hazards.proofs.records.examined_single_rate.Goals as goal

pub returns : goal.returns
returns c =
    let a = c.args in
    let h = a.cause.now.hazard in
    let f = lent_fields c.lent-fields.result in
    let none = intervals_from f.ends f.rates 0 in
    examined_is a.cause.now a.age a.w (c.single_rate_faults.ensures ∙ ap hazard_faults c.lent-fields.ensures)
    c.with_identifier-faults.ensures
    (c.invert_cumulative_hazard-wait.ensures
    ∙ ap (λ (k : HazardRate). invert_cumulative_hazard k none a.age a.w) c.hazard.ensures
    ∙ ap (λ (g : HazardFields). invert_cumulative_hazard (hazard_of g) none a.age a.w) c.lent-fields.ensures
    ∙ single_wait (hazard_of h) (intervals_of h) none a.age a.w c.requires)
