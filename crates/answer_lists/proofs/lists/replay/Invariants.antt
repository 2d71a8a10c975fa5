-- The cases so far are what the list gave, each is tried and counted, and `agrees` may still be asked.
use Rattle.std.proofs.Common.{◌≡◌, ℕ, List, length}
use Rattle.std.specs.Io.KnownBytes.{Consumes}
use Rattle.std.specs.List.{All, FoldsTo, concat}
use Rattle.answer_lists.specs.Counts.{no_cases}
use Rattle.answer_lists.specs.Lists.{TriesCase}
use Rattle.answer_lists.proofs.lists.replay.Given as goal

abbrev pub invariant-loop : goal.invariant-loop
invariant-loop g l =
    goal.F-IsAlwaysCallable g l.agrees
    × ((cases : List (List ℕ))
    × FoldsTo (TriesCase g.F.FnMut) (l.initial.agrees, no_cases) cases (l.agrees, l.count)
    × Consumes (g.R.Read.remaining l.initial.list) (g.R.Read.remaining l.list) (concat cases)
    × All (λ case. length case ≡ g.row.N) cases
    × (length cases ≡ l.counter))
