-- `inspection::own_cause` meets its contract.
use native.Mathlib.Omega.{arith}
use mathlib.Core.Path.{◌∙◌, ap}
use Rattle.olgaemuri.specs.Inspection.{cause_of}
use Rattle.olgaemuri.proofs.Inspected.{absent_cause, past_used, used_there}
use Rattle.olgaemuri.proofs.inspection.own_cause.Goals as goal

pub returns-then-settings-ne1 : goal.returns-then-settings-ne1
returns-then-settings-ne1 c =
    let a = c.args in
    c.no_cause.ensures ∙ absent_cause a.words.now a.floats.now a.place c.if-settings-ne1.true

pub returns-then-place-min : goal.returns-then-place-min
returns-then-place-min c =
    let a = c.args in
    c.no_cause-then-place-min.ensures
    ∙ past_used a.words.now a.floats.now a.place c.if-settings-ne1.false (omega (arith, c.min.ensures, c.if-place-min.true))

pub returns : goal.returns
returns c =
    let a = c.args in
    c.channel_fields.ensures
    ∙ (ap cause_of c.channel_at.ensures
    ∙ used_there a.words.now a.floats.now a.place c.if-settings-ne1.false
    (omega (arith, c.min.ensures, c.if-place-min.false)))
