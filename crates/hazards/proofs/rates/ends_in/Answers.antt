-- `rates::ends_in` meets its contract: a wait that is finite, and one that is not.
use mathlib.Core.Path.{sym, ◌∙◌}
use Rattle.hazards.specs.Rates.{ends_in}
use Rattle.hazards.proofs.rates.ends_in.Goals as goal

pub returns-then-is_finite_wait : goal.returns-then-is_finite_wait
unfolding ends_in
returns-then-is_finite_wait c = rw (sym c.is_finite_wait.ensures ∙ c.if-is_finite_wait.true)

pub returns-else-is_finite_wait : goal.returns-else-is_finite_wait
unfolding ends_in
returns-else-is_finite_wait c = rw (sym c.is_finite_wait.ensures ∙ c.if-is_finite_wait.false, c.without_piece.ensures)
