-- `validation::channels_coded` meets its contract: at each turn the channels below j are coded where the words joined so far pass.
use mathlib.Core.Path.{sym, ◌∙◌}
use mathlib.Core.List.{[]}
use Prim.Native.Nat.{◌+◌, ◌*◌}
use borrow.Author.Tests.{not-true, not-false}
use lib.Dec.{ltb}
use lib.ListN.{get_or}
use Rattle.hazards.proofs.Cases.{both_true}
use Rattle.hazards.specs.Rates.{kinds}
use Rattle.clocks.specs.Layout.{coded_words, coded_numbers}
use Rattle.clocks.proofs.EveryBelow.{every_none, every_step, every_fails, and_true}
use Rattle.clocks.proofs.JoinedWords.{joined_more, not_coded}
use native.Mathlib.Omega.{arith}
use Rattle.clocks.proofs.validation.channels_coded.Invariants.{coded_at}
use Rattle.clocks.proofs.validation.channels_coded.Goals as goal

pub loop-j-init : goal.loop-j-init
loop-j-init c = every_none _

pub returns-then-not-kind_coded : goal.returns-then-not-kind_coded
returns-then-not-kind_coded c =
    let a = c.args in
    let ws = get_or a.words.now (2 + c.loop-j.j) [] in
    let ns = get_or a.floats.now (1 + 3 * c.loop-j.j) [] in
    let fails = sym c.kind_coded.ensures ∙ not-true _ c.if-not-kind_coded.true-raw in
    sym (every_fails (coded_at a.words.now a.floats.now) 8 c.loop-j.j (omega arith) (not_coded ws ns fails))

pub loop-j-preserved : goal.loop-j-preserved
loop-j-preserved c =
    let a = c.args in
    let ws = get_or a.words.now (2 + c.loop-j.j) [] in
    let ns = get_or a.floats.now (1 + 3 * c.loop-j.j) [] in
    let passes = sym c.kind_coded.ensures ∙ not-false _ c.if-not-kind_coded.false-raw in
    let both = both_true (ltb (get_or ws 2 0) kinds) (coded_numbers (get_or ws 2 0) ns) passes in
    every_step (coded_at a.words.now a.floats.now) c.loop-j.j
    ∙ rw (c.loop-j.invariant, both.1, and_true (coded_words ws)) (joined_more c.loop-j.ids c.loop-j.spare ws both.0)
