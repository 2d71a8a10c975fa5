-- A refused draw leaves the position, so the caller's is the one that the definition gives.
use Rattle.std.proofs.Common.{rules}
use Rattle.hazards.proofs.DrawLaws.{refused_lent}
use Rattle.hazards.proofs.draws.draw_from.Goals as goal

pub returns-in_err-threshold : goal.returns-in_err-threshold
returns-in_err-threshold c =
    let lent = c.draw_standard_threshold.new.position in
    let e = refused_lent c.args.stream.now c.args.position.next c.in_err-threshold.field-0.0 lent c.in_err-threshold.ensures in search (rules, e)

pub returns : goal.returns
returns c = c.in_ok-threshold.ensures
