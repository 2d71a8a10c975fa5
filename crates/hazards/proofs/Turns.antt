-- One turn of each definition over pieces: what it gives at a first piece, by the outcome of its test, and where there is none.
use mathlib.Core.Path.{◌≡◌}
use mathlib.Core.Bool.{true, false, ◌&&◌}
use mathlib.Core.List.{List, [], ◌∷◌}
use Prim.Native.Nat.{ℕ, suc, ◌+◌}
use native.Mathlib.Numerals.{add-one}
use lib.Ieee.{Float, binary64, add, sub, mul, lt, le}
use Rattle.hazards.specs.Floats.{z, not_below_zero}
use Rattle.hazards.specs.Rates.{Piece, piecewise_hazard, piecewise_cumulative, first_after, wait_from, wait_through}

-- the hazard: the first piece's end is above t, or not
module _ {ps qs : List Piece} {p : Piece} (trailing t : Float) (first : ps ≡ p ∷ qs) where
  pub hazard_here : lt t p.end ≡ true → piecewise_hazard ps trailing t ≡ not_below_zero p.rate
  unfolding piecewise_hazard
  hazard_here h = rw (first, h)

  pub hazard_later : lt t p.end ≡ false → piecewise_hazard ps trailing t ≡ piecewise_hazard qs trailing t
  unfolding piecewise_hazard
  hazard_later h = rw (first, h)

pub hazard_trailing : {ps : List Piece} (trailing t : Float) → ps ≡ [] → piecewise_hazard ps trailing t ≡ not_below_zero trailing
unfolding piecewise_hazard
hazard_trailing trailing t none = rw none

-- the cumulative hazard: t is at most the first piece's end, or not
module _ {ps qs : List Piece} {p : Piece} (trailing t cum cur : Float) {rate : Float} (first : ps ≡ p ∷ qs)
    (r : rate ≡ not_below_zero p.rate) where
  pub cumulative_here : le t p.end ≡ true
      → piecewise_cumulative ps trailing t cum cur ≡ add binary64 cum (mul binary64 rate (sub binary64 t cur))
  unfolding piecewise_cumulative
  cumulative_here h = rw (first, h, r)

  pub cumulative_later : le t p.end ≡ false
      → piecewise_cumulative ps trailing t cum cur
      ≡ piecewise_cumulative qs trailing t (add binary64 cum (mul binary64 rate (sub binary64 p.end cur))) p.end
  unfolding piecewise_cumulative
  cumulative_later h = rw (first, h, r)

pub cumulative_trailing : {ps : List Piece} (trailing t cum cur : Float) {rate : Float} → ps ≡ [] → rate ≡ not_below_zero trailing
    → piecewise_cumulative ps trailing t cum cur ≡ add binary64 cum (mul binary64 rate (sub binary64 t cur))
unfolding piecewise_cumulative
cumulative_trailing trailing t cum cur none r = rw (none, r)

-- the first after t: the first piece ends at or before t, or not
module _ {ps qs : List Piece} {p : Piece} (t : Float) (first : ps ≡ p ∷ qs) where
  pub after_past : le p.end t ≡ true → first_after t ps ≡ suc (first_after t qs)
  unfolding first_after
  after_past h = rw (first, h)

  pub after_here : le p.end t ≡ false → first_after t ps ≡ 0
  unfolding first_after
  after_here h = rw (first, h)

pub after_none : {ps : List Piece} (t : Float) → ps ≡ [] → first_after t ps ≡ 0
unfolding first_after
after_none t none = rw none

-- the wait: w is reached within the first piece, or not
module _ (i : ℕ) {ps qs : List Piece} {p : Piece} (trailing start cur w : Float) {rate : Float} (first : ps ≡ p ∷ qs)
    (r : rate ≡ not_below_zero p.rate) where
  pub wait_here : (lt z rate && le w (mul binary64 rate (sub binary64 p.end cur))) ≡ true
      → wait_from i ps trailing start cur w ≡ wait_through i start cur rate w
  unfolding wait_from
  wait_here h = rw (first, ← r, h)

  pub wait_later : (lt z rate && le w (mul binary64 rate (sub binary64 p.end cur))) ≡ false
      → wait_from i ps trailing start cur w
      ≡ wait_from (i + 1) qs trailing start p.end (sub binary64 w (mul binary64 rate (sub binary64 p.end cur)))
  unfolding wait_from
  wait_later h = rw (first, ← r, h, add-one)
