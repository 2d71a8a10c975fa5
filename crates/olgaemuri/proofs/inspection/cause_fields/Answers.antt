-- `inspection::cause_fields` meets its contract.
use Rattle.std.proofs.Common.{◌∙◌}
use Rattle.olgaemuri.proofs.Inspected.{no_cause_place, cause_there}
use Rattle.olgaemuri.proofs.inspection.cause_fields.Goals as goal

pub returns-in_default : goal.returns-in_default
returns-in_default c =
    let a = c.args in
    c.no_cause.ensures ∙ no_cause_place a.words.now a.floats.now a.clock c.args.place c.in_default.ensures

pub returns : goal.returns
returns c =
    let a = c.args in
    c.own_cause.ensures ∙ cause_there a.words.now a.floats.now a.clock c.args.place _ _ c.in-Some.ensures
