-- `ties::with_candidate` meets its contract: a wait that is finite, and one that is not.
use mathlib.Core.Path.{sym, ◌∙◌}
use borrow.Author.Tests.{not-true, not-false}
use Rattle.hazards.specs.Lists.{foldl}
use Rattle.hazards.specs.Ties.{candidate_after}
use Rattle.hazards.proofs.ties.with_candidate.Goals as goal

pub returns-then-not-is_finite_wait : goal.returns-then-not-is_finite_wait
unfolding candidate_after foldl
returns-then-not-is_finite_wait c = rw (sym c.is_finite_wait.ensures ∙ not-true _ c.if-not-is_finite_wait.true-raw)

pub returns : goal.returns
unfolding candidate_after foldl
returns c =
    rw (sym c.is_finite_wait.ensures ∙ not-false _ c.if-not-is_finite_wait.false-raw, ← c.capped_piece.ensures) c.earlier.ensures
