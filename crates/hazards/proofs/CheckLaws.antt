-- What the tests of a hazard come to: ends that ascend, and a hazard that uses pairs or none.
use mathlib.Core.Path.{◌≡◌, refl, sym, subst}
use mathlib.Core.Bool.{Bool, true, false, not, ◌&&◌, true≢false}
use mathlib.Core.List.{List, [], ◌∷◌}
use lib.Dec.{T}
use lib.Ieee.{Float, nan, inf, fin, lt, le, is_nan}
use Rattle.hazards.specs.Floats.{limit}
use Rattle.hazards.specs.Rates.{Piece, uses_pairs, wait_of_rate, invert_cumulative_hazard}
use Rattle.hazards.specs.Checks.{range_fault, ascending, unused_fault, pairs_fault, intervals_fault}
use Rattle.hazards.specs.declared.rates.HazardRate.{HazardRate}
use Rattle.hazards.specs.declared.rates.HazardRate.TheVariants.{Zero, Constant, Gompertz, Piecewise, Weibull}
use Rattle.hazards.specs.declared.rates.Intervals.{Intervals}

-- what is at most something is a number
pub at_most_number : (x y : Float) → le x y ≡ true → T (not (is_nan x))
unfolding is_nan le
at_most_number nan y h = subst T (sym h) tt
at_most_number (inf s) y h = tt
at_most_number (fin s m e) y h = tt

-- ---- ascending ends: the first follows the one before, it does not, there is none

both_hold : (a b c : Bool) → (a && b) ≡ true → (a && (b && c)) ≡ c
both_hold true b c h = rw h
both_hold false b c h = cc

one_fails : (a b c : Bool) → (a && b) ≡ false → (a && (b && c)) ≡ false
one_fails true b c h = rw h
one_fails false b c h = refl

module _ (before : Float) {ps qs : List Piece} {p : Piece} (first : ps ≡ p ∷ qs) where
  pub ascending_next : (lt before p.end && le p.end limit) ≡ true → ascending before ps ≡ ascending p.end qs
  unfolding ascending
  ascending_next h = rw first (both_hold (lt before p.end) (le p.end limit) (ascending p.end qs) h)

  pub ascending_fails : (lt before p.end && le p.end limit) ≡ false → ascending before ps ≡ false
  unfolding ascending
  ascending_fails h = rw first (one_fails (lt before p.end) (le p.end limit) (ascending p.end qs) h)

pub ascending_none : (before : Float) {ps : List Piece} → ps ≡ [] → ascending before ps ≡ true
unfolding ascending
ascending_none before none = rw none

-- ---- a hazard that uses no pairs: 5 and the wait are the same whatever they hold, and 6 asks that they are zero

pub single_range : (h : HazardRate) (p q : Intervals) → uses_pairs h ≡ false → range_fault h q ≡ range_fault h p
unfolding uses_pairs range_fault
single_range Zero p q e = refl
single_range (Constant rate) p q e = refl
single_range (Gompertz eta) p q e = refl
single_range (Piecewise trailing) p q e = absurd (true≢false e)
single_range (Weibull scale) p q e = refl

pub used_intervals : (h : HazardRate) (p : Intervals) → uses_pairs h ≡ true → pairs_fault p ≡ intervals_fault h p
unfolding uses_pairs intervals_fault
used_intervals Zero p e = absurd (true≢false (sym e))
used_intervals (Constant rate) p e = absurd (true≢false (sym e))
used_intervals (Gompertz eta) p e = absurd (true≢false (sym e))
used_intervals (Piecewise trailing) p e = refl
used_intervals (Weibull scale) p e = absurd (true≢false (sym e))

pub single_intervals : (h : HazardRate) (p : Intervals) → uses_pairs h ≡ false → unused_fault p ≡ intervals_fault h p
unfolding uses_pairs intervals_fault
single_intervals Zero p e = refl
single_intervals (Constant rate) p e = refl
single_intervals (Gompertz eta) p e = refl
single_intervals (Piecewise trailing) p e = absurd (true≢false e)
single_intervals (Weibull scale) p e = refl

pub single_wait : (h : HazardRate) (p q : Intervals) (start w : Float) → uses_pairs h ≡ false
    → invert_cumulative_hazard h q start w ≡ invert_cumulative_hazard h p start w
unfolding uses_pairs invert_cumulative_hazard wait_of_rate
single_wait Zero p q start w e = refl
single_wait (Constant rate) p q start w e = refl
single_wait (Gompertz eta) p q start w e = refl
single_wait (Piecewise trailing) p q start w e = absurd (true≢false e)
single_wait (Weibull scale) p q start w e = refl
