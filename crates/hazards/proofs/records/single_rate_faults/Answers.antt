-- `records::single_rate_faults` meets its contract.
use Rattle.hazards.specs.Rates.{intervals_from}
use Rattle.hazards.specs.Checks.{lent_fields, hazard_faults, choice_fault, range_fault, hazard_of, intervals_of}
use Rattle.hazards.specs.declared.rates.HazardRate.{HazardRate}
use Rattle.hazards.proofs.CheckLaws.{single_range, single_intervals}
use mathlib.Core.Path.{◌∙◌, ap}
use Rattle.hazards.proofs.records.single_rate_faults.Goals as goal

pub returns : goal.returns
unfolding hazard_faults choice_fault
returns c =
    let f = lent_fields c.args.fields in
    let none = intervals_from f.ends f.rates 0 in
    rw (
      c.choice_fault.ensures,
      c.range_fault.ensures f.ends
          ∙ ap (λ (h : HazardRate). range_fault h none) c.hazard.ensures
          ∙ single_range (hazard_of f) (intervals_of f) none c.requires,
      c.unused_fault.ensures ∙ single_intervals (hazard_of f) (intervals_of f) c.requires,
    )
