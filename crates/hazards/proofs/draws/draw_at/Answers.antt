-- Each way out is one of the definition's four.
use mathlib.Core.Path.{◌≡◌, sym, ap, ◌∙◌}
use mathlib.Core.Bool.{true, false}
use native.Mathlib.Omega.{arith}
use borrow.Author.Tests.{not-true, not-false}
use Rattle.hazards.specs.Floats.{is_threshold}
use Rattle.hazards.specs.Draws.{threshold_at}
use Rattle.hazards.proofs.DrawLaws.{draw_past, draw_used_up, draw_bad, draw_good}
use Rattle.hazards.proofs.draws.draw_at.Goals as goal

pub returns-then-position-length : goal.returns-then-position-length
returns-then-position-length c = sym (draw_past c.args.stream.now c.args.position c.if-position-length.true)

pub returns-then-position-length-2 : goal.returns-then-position-length-2
returns-then-position-length-2 c = sym (draw_used_up c.args.stream.now c.args.position c.if-position-length-2.true)

pub returns-then-not-is_threshold : goal.returns-then-not-is_threshold
returns-then-not-is_threshold c =
    let a = c.args in
    let e : is_threshold (threshold_at a.stream.now a.position) ≡ false =
    ap is_threshold (sym c.f64_at-threshold.ensures) ∙ sym c.is_threshold.ensures ∙ not-true _ c.if-not-is_threshold.true-raw in
    sym (draw_bad a.stream.now a.position (omega arith) e)

pub returns : goal.returns
returns c =
    let a = c.args in
    let e : is_threshold (threshold_at a.stream.now a.position) ≡ true =
    ap is_threshold (sym c.f64_at-threshold.ensures) ∙ sym c.is_threshold.ensures ∙ not-false _ c.if-not-is_threshold.false-raw in
    rw c.f64_at-threshold.ensures (sym (draw_good a.stream.now a.position (omega arith) e))
