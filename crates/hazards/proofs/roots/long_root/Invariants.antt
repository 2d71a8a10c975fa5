-- `roots::long_root` meets its contract: each turn gives the root one binary digit more.
use Rattle.hazards.proofs.WholeRoots.{After}
use Rattle.hazards.proofs.roots.long_root.Given as goal

abbrev pub invariant-loop : goal.invariant-loop
invariant-loop l = After l.n l.counter l.root l.left
