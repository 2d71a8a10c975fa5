-- `journal::clear_eights` meets its contract: at each turn the first turn * 8 bytes are zero, and the rest are as they were.
use mathlib.Core.Path.{◌≡◌}
use mathlib.Core.List.{◌++◌}
use Prim.Native.Nat.{◌*◌}
use lib.ListN.{length, drop, replicate}
use Rattle.engine.proofs.journal.clear_eights.Given as goal

abbrev pub invariant-loop-turn : goal.invariant-loop-turn
invariant-loop-turn l = (l.bytes ≡ replicate (l.turn * 8) 0 ++ drop (l.turn * 8) l.initial.bytes) × (length l.bytes ≡ length l.initial.bytes)
