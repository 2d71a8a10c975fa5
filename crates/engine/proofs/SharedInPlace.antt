-- Calls that change the shared state alone: none, and one after another.
use mathlib.Core.Path.{◌≡◌, refl, ◌∙◌}
use Rattle.clocks.specs.Layout.{WordRows}
use Rattle.engine.specs.StateRows.{shared_from, LeavesShared}
use Rattle.engine.specs.State.{SharedState}

pub shared_none : (w : WordRows) {p : SharedState} → shared_from w ≡ p → LeavesShared w w p
shared_none w e = record { shared = e; clocks = refl; coded = λ h. h }

pub shared_then : {w w' w'' : WordRows} {p q : SharedState} → LeavesShared w w' p → LeavesShared w' w'' q → LeavesShared w w'' q
shared_then a b = record {
  shared = b.shared;
  clocks = b.clocks ∙ a.clocks;
  coded = λ h. b.coded (a.coded h);
}
