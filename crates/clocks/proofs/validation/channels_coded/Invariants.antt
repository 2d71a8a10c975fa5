-- `validation::channels_coded` meets its contract: at each turn the channels below j are coded where the words joined so far pass.
use mathlib.Core.Path.{◌≡◌}
use mathlib.Core.Bool.{Bool, ◌&&◌}
use mathlib.Core.List.{[]}
use Prim.Native.Nat.{ℕ, ◌+◌, ◌*◌}
use lib.Dec.{eqb, ltb}
use lib.ListN.{get_or}
use Rattle.clocks.specs.Layout.{WordRows, FloatRows, coded_channel, every_below}
use Rattle.clocks.proofs.validation.channels_coded.Given as goal

-- the test of channel j
abbrev pub coded_at : WordRows → FloatRows → ℕ → Bool
coded_at w f j = coded_channel (get_or w (2 + j) []) (get_or f (1 + 3 * j) [])

abbrev pub invariant-loop-j : goal.invariant-loop-j
invariant-loop-j l = every_below l.j (coded_at l.words l.floats) ≡ (ltb l.ids 4294967296 && eqb l.spare 0)
