-- `ties::precedes` meets its contract.
use Rattle.hazards.specs.Ties.{precedes}
use Rattle.hazards.proofs.ties.precedes.Goals as goal

pub returns-then-a-b : goal.returns-then-a-b
unfolding precedes
returns-then-a-b c = rw c.if-a-b.true

pub returns-then-b-a : goal.returns-then-b-a
unfolding precedes
returns-then-b-a c = rw (c.if-a-b.false, c.if-b-a.true)

pub returns : goal.returns
unfolding precedes
returns c = rw (c.if-a-b.false, c.if-b-a.false) c.preferred.ensures
