-- `comparison::same_floats` meets its contract: every pair is tested.
use mathlib.Core.Path.{◌∙◌}
use mathlib.Core.List.{List, []}
use lib.Ieee.{Float}
use Rattle.std.proofs.Common.{rules, tests}
use Rattle.std.proofs.lemmas.Iterator.{YieldsList-from_slice, YieldsList-from_zip}
use Rattle.std.proofs.lemmas.Iterator.Search.{all_from_yields_List}
use Rattle.engine.specs.ComparisonInternals.{same_float_row, same_float_rows}
use Rattle.engine.proofs.PlaceByPlace.{pairs_tested}
use Rattle.engine.proofs.comparison.same_floats.Goals as goal

pub returns : goal.returns
unfolding same_float_rows
returns c =
    let a = c.args.a.now in
    let b = c.args.b.now in
    all_from_yields_List (λ (p : List Float × List Float). same_float_row p.0 p.1) c.all.new.self _ c.all.result c.all.ensures.ran
    (YieldsList-from_zip (YieldsList-from_slice a cc) (YieldsList-from_slice b cc)) (λ x b q k. search (rules, tests))
    ∙ pairs_tested same_float_row [] [] a b c.requires
