-- `validation::clocks_coded` meets its contract: at each turn the clocks below k are coded.
use mathlib.Core.Path.{◌≡◌}
use mathlib.Core.Bool.{Bool, true}
use Prim.Native.Nat.{ℕ}
use Rattle.clocks.specs.Layout.{WordRows, FloatRows, every_below, coded_clock}
use Rattle.engine.specs.StateRows.{part_at}
use Rattle.engine.proofs.validation.clocks_coded.Given as goal

-- the test of clock k
abbrev pub coded_at : WordRows → FloatRows → ℕ → Bool
coded_at w f k = coded_clock (part_at 10 k w) (part_at 25 k f)

abbrev pub invariant-loop-k : goal.invariant-loop-k
invariant-loop-k l = (every_below l.k (coded_at l.words l.floats) ≡ true)
