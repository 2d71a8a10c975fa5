-- What the floats of an opened state are, row by row.
use Rattle.std.specs.Prelude.{◌≡◌, List, [], ◌∷◌, ℕ, ◌+◌, ◌*◌, ◌<◌, Float, length, get_or, replicate}
use Rattle.hazards.specs.Floats.{z}
use Rattle.clocks.specs.Clocks.{one}
use Rattle.clocks.specs.Layout.{FloatRows}

-- the times of a clock that is not there: its scale is 1
abbrev pub opened_times : List Float
opened_times = one ∷ replicate 7 z

-- the first n clocks have theirs
pub record OpenedFloats (n : ℕ) (f : FloatRows) : Type 0 where
  pub rows : length f ≡ 400
  pub times : (k : ℕ) → k < n → get_or f (25 * k) [] ≡ opened_times
  pub zeros : (k r : ℕ) → k < 16 → 0 < r → r < 25 → get_or f (25 * k + r) [] ≡ replicate 8 z
