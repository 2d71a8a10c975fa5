-- `replay::last_command` meets its contract: at each turn, what is left of a replay that ends is known from the place after the last
-- command.
use mathlib.Core.Path.{◌≡◌}
use mathlib.Core.List.{List}
use Prim.Native.Nat.{ℕ, ◌-◌, ◌≤◌}
use lib.ListN.{length}
use Rattle.engine.specs.ReplayInternals.{ends, replay_all}
use Rattle.engine.specs.Instance.{engine_of}
use Rattle.engine.specs.State.{EngineState}
use Rattle.engine.proofs.ReplaySteps.{Rest}
use Rattle.engine.proofs.replay.last_command.Given as goal

abbrev pub invariant-loop-command : goal.invariant-loop-command
invariant-loop-command l =
    (l.place ≤ length l.bytes)
    × (l.at ≤ length l.bytes)
    × ((stream : List ℕ) (n : ℕ) (s before : EngineState) (last : ℕ) → replay_all (engine_of stream n) l.bytes ≡ ends s before last
    → Rest (engine_of stream n) l.bytes (ends s before last) l.place l.at)

abbrev pub decreases-loop-command : goal.decreases-loop-command
decreases-loop-command l = length l.bytes - l.at
