-- The test of the sizes of lent rows.
use mathlib.Core.Path.{◌≡◌}
use mathlib.Core.Bool.{true, false}
use borrow.Author.Tests.{eq-eqb, ne_eqb, eqb-true}
use lib.Dec.{eqb}
use lib.ListN.{length}
use Rattle.hazards.proofs.Cases.{both_true}
use Rattle.clocks.specs.Layout.{WordRows, FloatRows}
use Rattle.clocks.proofs.EveryBelow.{and_false}
use Rattle.engine.specs.StateRows.{SizedState}
use Rattle.engine.specs.InPlace.{has_sizes}

module _ (w : WordRows) (f : FloatRows) where
  pub sizes_there : length w ≡ 177 → length f ≡ 400 → has_sizes w f ≡ true
  sizes_there a b = rw (eq-eqb (length w) 177 a, eq-eqb (length f) 400 b)

  pub words_amiss : (length w ≡ 177 → ⊥) → has_sizes w f ≡ false
  words_amiss h = rw (ne_eqb (length w) 177 h)

  pub floats_amiss : (length f ≡ 400 → ⊥) → has_sizes w f ≡ false
  floats_amiss h = rw (ne_eqb (length f) 400 h, and_false (eqb (length w) 177))

  pub sizes_facts : has_sizes w f ≡ true → SizedState w f
  sizes_facts h =
      let both = both_true (eqb (length w) 177) (eqb (length f) 400) h in
      record { words = eqb-true (length w) 177 both.0; floats = eqb-true (length f) 400 both.1 }
