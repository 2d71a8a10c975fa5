-- `validation::valid_times` meets its contract: the winner's time is tested where there is a winner.
use mathlib.Core.Path.{sym, ◌∙◌}
use borrow.Author.Tests.{not-true, not-false}
use Rattle.clocks.proofs.ValidRows.{finite_is, two_fail, two_pass}
use Rattle.clocks.proofs.validation.valid_times.Goals as goal

pub returns-then-not-is_finite : goal.returns-then-not-is_finite
returns-then-not-is_finite c = two_fail _ _ _ (c.is_finite.ensures.value ∙ finite_is _) (c.is_finite-2.ensures.value ∙ finite_is _) (not-true _ c.if-not-is_finite.true-raw)

pub returns-then-not-winner : goal.returns-then-not-winner
returns-then-not-winner c =
    let first = (c.is_finite.ensures.value ∙ finite_is _) in
    let pass = two_pass _ _ _ first (c.is_finite-2.ensures.value ∙ finite_is _) (not-false _ c.if-not-is_finite.false-raw) in
    let winner = c.args.winner in
    c.if-not-winner.true-raw ∙ sym (pass ∙ rw (not-true winner c.if-not-winner.true-raw))

pub returns-else-not-winner : goal.returns-else-not-winner
returns-else-not-winner c =
    let first = (c.is_finite.ensures.value ∙ finite_is _) in
    let pass = two_pass _ _ _ first (c.is_finite-2.ensures.value ∙ finite_is _) (not-false _ c.if-not-is_finite.false-raw) in
    let winner = c.args.winner in
    (c.is_finite-else-not-winner.ensures.value ∙ finite_is _) ∙ sym (pass ∙ rw (not-false winner c.if-not-winner.false-raw))
