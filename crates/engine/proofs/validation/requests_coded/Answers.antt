-- `validation::requests_coded` meets its contract: the rows from the first request on are tested, which are sixteen.
use mathlib.Core.Path.{◌≡◌, ◌∙◌, ap}
use mathlib.Core.List.{List, []}
use Prim.Native.Nat.{ℕ, ◌+◌}
use native.Mathlib.Omega.{arith}
use lib.ListN.{length, get_or, take, drop, length-drop}
use lib.Seq.{get_or-take, get_or-drop, length-take-le}
use Rattle.std.proofs.Common.{rules, tests}
use Rattle.std.proofs.lemmas.Iterator.{YieldsList-from_slice}
use Rattle.std.proofs.lemmas.Iterator.Search.{all_from_yields_List}
use Rattle.clocks.specs.Layout.{every_below}
use Rattle.engine.specs.StateRows.{coded_request}
use Rattle.engine.proofs.PlaceByPlace.{all_tested, every_alike}
use Rattle.engine.proofs.validation.requests_coded.Goals as goal

pub returns : goal.returns
returns c =
    let w = c.args.words.now in
    let sized : length w ≡ 177 = omega arith in
    let rows = take 16 (drop 161 w) in
    let sixteen : length rows ≡ 16 = length-take-le 16 (drop 161 w) (omega (arith, length-drop 161 w, sized)) in
    let all = all_from_yields_List coded_request c.all.new.self _ c.all.result c.all.ensures.ran
    (YieldsList-from_slice _ c.iter.ensures.rest) (λ x b q k. search (rules, tests)) in
    all
    ∙ all_tested coded_request [] rows
    ∙ ap (λ (n : ℕ). every_below n (λ i. coded_request (get_or rows i []))) sixteen
    ∙ every_alike 16 _ _
    (λ i h. ap coded_request (get_or-take 16 (drop 161 w) i [] h ∙ get_or-drop 161 w i []))
