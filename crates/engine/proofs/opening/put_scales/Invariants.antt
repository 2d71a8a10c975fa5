-- `opening::put_scales` meets its contract: at each turn the clocks before k have their times.
use Rattle.engine.specs.OpeningInternals.{OpenedFloats}
use Rattle.engine.proofs.opening.put_scales.Given as goal

abbrev pub invariant-loop-k : goal.invariant-loop-k
invariant-loop-k l = OpenedFloats l.k l.floats
