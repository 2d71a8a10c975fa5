-- `rate_for_wait::rate_for_wait` meets its contract: outside the limits, no pattern left, or what the first rate answers.
use mathlib.Core.Path.{sym, ◌∙◌}
use native.Mathlib.Omega.{arith}
use borrow.Author.Tests.{not-true, not-false}
use denote.Floats.{passes}
use Rattle.hazards.specs.RateForWait.Answers.{outside}
use Rattle.hazards.proofs.RateForWait.{past_answers, exact_answers}
use Rattle.hazards.proofs.rate_for_wait.rate_for_wait.Goals as goal

pub returns-then-not-within_limits : goal.returns-then-not-within_limits
returns-then-not-within_limits c = outside (sym c.within_limits.ensures ∙ not-true _ c.if-not-within_limits.true-raw)

pub returns-then-pattern-eq-PAST_LIMIT : goal.returns-then-pattern-eq-PAST_LIMIT
returns-then-pattern-eq-PAST_LIMIT c =
    let l = sym c.within_limits.ensures ∙ not-false _ c.if-not-within_limits.false-raw in
    let a = c.args in
    past_answers a.threshold a.wait l c.first_pattern-pattern.ensures c.if-pattern-eq-PAST_LIMIT.true

pub returns : goal.returns
returns c =
    let l = sym c.within_limits.ensures ∙ not-false _ c.if-not-within_limits.false-raw in
    let m = c.first_pattern-pattern.ensures in
    rw c.exact_rate.ensures
    (exact_answers c.args.threshold c.args.wait l m (omega (arith, m.ends, c.if-pattern-eq-PAST_LIMIT.false)) (passes _ c.well_formed.1.0.1))
