-- `run::run_commands` meets its contract: at each turn, what is left of the run gives what the whole run gives.
use mathlib.Core.Path.{◌≡◌}
use Prim.Native.Nat.{◌-◌}
use lib.ListN.{length}
use Rattle.engine.specs.StateRows.{state_from, SizedState}
use Rattle.engine.specs.RunInternals.{opened_run}
use Rattle.engine.proofs.RunUndos.{Deferred}
use Rattle.engine.proofs.run.run_commands.Given as goal

-- a run from opening, with its state in the rows
abbrev pub invariant-loop-p : goal.invariant-loop-p
invariant-loop-p l =
    Deferred l.commands l.stream (length l.initial.journal) (length l.initial.answers) (opened_run l.commands l.stream (length l.initial.journal) l.initial.answers) l.journal l.answers
    (state_from l.words l.floats) l.p.applied l.p.stale l.p.answered l.p.read
    × SizedState l.words l.floats × (length l.res ≡ 16)

abbrev pub decreases-loop-p : goal.decreases-loop-p
decreases-loop-p l = length l.commands - l.p.read
