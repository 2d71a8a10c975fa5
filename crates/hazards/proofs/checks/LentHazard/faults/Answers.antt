-- `checks::LentHazard::faults` meets its contract.
use mathlib.Core.Path.{◌∙◌, ap}
use Rattle.hazards.specs.Checks.{lent_fields, hazard_faults, choice_fault, range_fault, intervals_fault, intervals_of}
use Rattle.hazards.specs.declared.rates.HazardRate.{HazardRate}
use Rattle.hazards.proofs.checks.LentHazard.faults.Goals as goal

pub returns : goal.returns
unfolding hazard_faults choice_fault
returns c =
    let f = lent_fields c.args.self in
    rw (
      c.choice_fault.ensures,
      c.range_fault.ensures f.ends ∙ ap (λ (h : HazardRate). range_fault h (intervals_of f)) c.hazard-hazard.ensures,
      c.intervals_fault.ensures ∙ ap (λ (h : HazardRate). intervals_fault h (intervals_of f)) c.hazard-hazard.ensures,
    )
