-- `inspection::clock_fields` meets its contract.
use Rattle.std.proofs.Common.{◌∙◌}
use Rattle.olgaemuri.proofs.Inspected.{no_place, clock_there}
use Rattle.olgaemuri.proofs.inspection.clock_fields.Goals as goal

pub returns-in_default : goal.returns-in_default
returns-in_default c =
    let a = c.args in
    c.no_clock.ensures ∙ no_place a.words.now a.floats.now a.clock c.in_default.ensures

pub returns : goal.returns
returns c =
    let a = c.args in
    c.own_fields.ensures ∙ clock_there a.words.now a.floats.now a.clock _ _ c.in-Some.ensures
