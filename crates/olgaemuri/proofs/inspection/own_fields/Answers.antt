-- `inspection::own_fields` meets its contract.
use borrow.Author.Tests.{ne_eqb}
use mathlib.Core.Path.{◌∙◌, ap}
use Rattle.hazards.specs.Ties.{tie_number, tie_breaker_of}
use Rattle.clocks.specs.Clocks.{policy_number, policy_of}
use Rattle.olgaemuri.specs.Inspection.{clock_where}
use Rattle.olgaemuri.proofs.Inspected.{own_there}
use Rattle.olgaemuri.proofs.inspection.own_fields.Goals as goal

pub returns-then-settings-ne1 : goal.returns-then-settings-ne1
unfolding clock_where
returns-then-settings-ne1 c = rw (c.no_clock.ensures, ne_eqb _ 1 c.if-settings-ne1.true)

pub returns : goal.returns
returns c =
    let policy = c.from.ensures ∙ ap policy_number (c.from-policy.ensures ∙ ap policy_of c.byte_from.ensures) in
    let tie = c.from-2.ensures ∙ ap tie_number (c.from-tie.ensures ∙ ap tie_breaker_of c.byte_from-2.ensures) in
    own_there c.args.words.now c.args.floats.now _ _ _ _ _ policy tie c.byte_from-3.ensures
    c.u32_from.ensures c.u32_from-2.ensures
    c.if-settings-ne1.false
