-- The table of twelve rows: each is computed from the definitions.
use mathlib.Core.Path.{refl}
use Rattle.engine.specs.Rows.{TwelveRows}
use Rattle.engine.proofs.Computed.{computed}

pub twelve_rows : TwelveRows
unfolding computed
twelve_rows = record {
  row_1 = refl;
  row_2 = (refl, refl);
  row_3 = (refl, refl);
  row_4 = (refl, refl);
  row_5 = refl;
  row_6 = (refl, refl);
  row_7 = (refl, refl, refl);
  row_8 = (refl, refl, refl, refl);
  row_9 = refl;
  row_10 = (refl, refl, refl, refl);
  row_11 = (refl, refl, refl, refl);
  row_12 = refl;
}
