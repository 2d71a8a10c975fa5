-- `checks::rates_in_range` meets its contract.
use mathlib.Core.Path.{◌∙◌}
use native.Mathlib.Omega.{arith}
use borrow.Author.Rules.{rules}
use borrow.Author.Tests.{tests}
use lib.ListN.{take}
use Rattle.std.proofs.lemmas.Iterator.{YieldsList-from_slice}
use Rattle.std.proofs.lemmas.Iterator.Search.{all_from_yields_List}
use Rattle.hazards.specs.Floats.{in_range}
use Rattle.hazards.specs.Rates.{intervals_from}
use Rattle.hazards.proofs.Pieces.{all-used-rates}
use Rattle.hazards.proofs.checks.rates_in_range.Goals as goal

pub returns : goal.returns
returns c =
    let a = c.args in
    let found = all_from_yields_List in_range _ _ c.all.result c.all.ensures.ran
    (YieldsList-from_slice (take c.min.result a.rates.now) c.iter.ensures.rest) (λ x b q k. search (rules, tests)) in
    λ ends. found ∙ all-used-rates (intervals_from ends a.rates.now a.count) c.min.ensures in_range (omega (arith, c.min.ensures))
