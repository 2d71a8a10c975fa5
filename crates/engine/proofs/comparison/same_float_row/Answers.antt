-- `comparison::same_float_row` meets its contract: every pair is tested.
use mathlib.Core.Path.{◌≡◌, sym, ◌∙◌, ap}
use Prim.Native.Nat.{ℕ}
use lib.Ieee.{Float, nan}
use lib.ListN.{length, get_or}
use Rattle.std.proofs.Common.{rules, tests}
use Rattle.std.proofs.lemmas.Iterator.{YieldsList-from_slice, YieldsList-from_zip}
use Rattle.std.proofs.lemmas.Iterator.Search.{all_from_yields_List}
use Rattle.clocks.specs.Layout.{every_below}
use Rattle.engine.specs.Comparison.{same_float}
use Rattle.engine.specs.ComparisonInternals.{same_float_row}
use Rattle.engine.proofs.PlaceByPlace.{pairs_tested}
use Rattle.engine.proofs.comparison.same_float_row.Goals as goal

pub returns : goal.returns
unfolding same_float_row
returns c =
    let a = c.args.a.now in
    let b = c.args.b.now in
    let long : length a ≡ length b = c.told-a ∙ sym c.told-b in
    all_from_yields_List (λ (p : Float × Float). same_float p.0 p.1) c.all.new.self _ c.all.result c.all.ensures.ran
    (YieldsList-from_zip (YieldsList-from_slice a cc) (YieldsList-from_slice b cc)) (λ x b q k. search (rules, tests))
    ∙ pairs_tested same_float nan nan a b long
    ∙ ap (λ (n : ℕ). every_below n (λ i. same_float (get_or a i nan) (get_or b i nan))) c.told-a
