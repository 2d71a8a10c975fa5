-- `ties::earlier` meets its contract.
use Rattle.hazards.specs.Ties.{earlier}
use mathlib.Core.Path.{sym, ◌∙◌}
use Rattle.hazards.proofs.ties.earlier.Goals as goal

pub returns-in-None : goal.returns-in-None
unfolding earlier
returns-in-None c = rw c.in-None.is

pub returns-then-precedes : goal.returns-then-precedes
unfolding earlier
returns-then-precedes c = rw (c.in-Some.is, sym c.precedes.ensures ∙ c.if-precedes.true)

pub returns-else-precedes : goal.returns-else-precedes
unfolding earlier
returns-else-precedes c = rw (c.in-Some.is, sym c.precedes.ensures ∙ c.if-precedes.false)
