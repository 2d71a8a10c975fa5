-- Change 6 of document 02, "Show which piece of the rate curve struck": what its sentence on the piece number says, apart from how the wait
-- is worked out (Rates).
use Rattle.std.specs.Prelude.{◌≡◌, Bool, true, false, ◌&&◌, List, [], ◌∷◌, ℕ, zero, suc, ◌-◌, ◌≤◌, ◌<◌, length, drop, Float}
use Rattle.std.specs.Float.{nan, binary64}
use Rattle.std.specs.Float.Ieee.{add, sub, mul, div, lt, le}
use Rattle.hazards.specs.Floats.{z, not_below_zero, is_finite_wait}
use Rattle.hazards.specs.Rates.{Piece, first_after, used_pairs, uses_pairs, invert_cumulative_hazard, some_wait}
use Rattle.hazards.specs.declared.rates.HazardRate.{HazardRate}
use Rattle.hazards.specs.declared.rates.HazardRate.TheVariants.{Piecewise}
use Rattle.hazards.specs.declared.rates.Intervals.{Intervals}

-- the rate of piece i of a curve: of the pair with that index, and the trailing one past the last pair
unfoldable pub rate_of : List Piece → Float → ℕ → Float
rate_of [] trailing i = not_below_zero trailing
rate_of (p ∷ ps) trailing zero = not_below_zero p.rate
rate_of (p ∷ ps) trailing (suc i) = rate_of ps trailing i

-- the end of the pair with index i
unfoldable pub end_of : List Piece → ℕ → Float
end_of [] i = nan
end_of (p ∷ ps) zero = p.end
end_of (p ∷ ps) (suc i) = end_of ps i

-- what a pair holds of hazard from cur on
abbrev pub capacity_from : Piece → Float → Float
capacity_from p cur = mul binary64 (not_below_zero p.rate) (sub binary64 p.end cur)

-- what is left of w where the k-th of these pieces begins: w less what each one before it holds, the first from cur on
unfoldable pub left_at : List Piece → Float → Float → ℕ → Float
left_at ps cur w zero = w
left_at [] cur w (suc k) = w
left_at (p ∷ ps) cur w (suc k) = left_at ps p.end (sub binary64 w (capacity_from p cur)) k

-- whether the k-th of these pairs has a rate above 0 and holds what is left of w where it begins
unfoldable pub holds_at : List Piece → Float → Float → ℕ → Bool
holds_at [] cur w k = false
holds_at (p ∷ ps) cur w zero = lt z (not_below_zero p.rate) && le w (capacity_from p cur)
holds_at (p ∷ ps) cur w (suc k) = holds_at ps p.end (sub binary64 w (capacity_from p cur)) k

-- a wait from a start on ends in a piece: the hazard left at the piece's beginning, or at the start where that is later, has accumulated
-- within it at its rate, which is above 0
pub record EndsIn (ps : List Piece) (trailing start w wait : Float) (piece : ℕ) : Type 0 where
  pub cur : Float
  pub left : Float
  -- the pair used, or the trailing rate, whose number is that of the pairs used (count, at most 8)
  pub within : piece ≤ length ps
  pub positive : lt z (rate_of ps trailing piece) ≡ true
  -- not one that ends at or before the start
  pub after_start : first_after start ps ≤ piece
  pub from_start : piece ≡ first_after start ps → cur ≡ start
  pub from_end : (i : ℕ) → first_after start ps ≤ i → piece ≡ suc i → cur ≡ end_of ps i
  -- what the pairs from the start on up to this one have left of w
  pub left_of : left ≡ left_at (drop (first_after start ps) ps) start w (piece - first_after start ps)
  -- a pair holds what is left, to the last of it, and none before it does
  pub holds : piece < length ps → holds_at (drop (first_after start ps) ps) start w (piece - first_after start ps) ≡ true
  pub passed : (j : ℕ) → j < piece - first_after start ps → holds_at (drop (first_after start ps) ps) start w j ≡ false
  pub waits : wait ≡ sub binary64 (add binary64 cur (div binary64 left (rate_of ps trailing piece))) start

-- "the index of the pair used, count for the trailing rate"
abbrev pub PieceUsed : Type 0
PieceUsed = (trailing : Float) (p : Intervals) (start w wait : Float) (piece : ℕ)
    → invert_cumulative_hazard (Piecewise trailing) p start w ≡ some_wait wait piece → le w z ≡ false → is_finite_wait wait ≡ true
    → EndsIn (used_pairs p) trailing (not_below_zero start) w wait piece

-- that says which: of one w from one start on no two pieces are the one used
abbrev pub OnePiece : Type 0
OnePiece = (ps : List Piece) (trailing start w wait wait' : Float) (piece piece' : ℕ)
    → EndsIn ps trailing start w wait piece → EndsIn ps trailing start w wait' piece' → piece ≡ piece'

-- "0 for all other kinds, for w at most 0 and where there is no finite wait"
pub record NoPiece (h : HazardRate) (w wait : Float) (piece : ℕ) : Type 0 where
  pub other_kinds : uses_pairs h ≡ false → piece ≡ 0
  pub no_threshold : le w z ≡ true → piece ≡ 0
  pub no_finite_wait : is_finite_wait wait ≡ false → piece ≡ 0

abbrev pub PieceZero : Type 0
PieceZero = (h : HazardRate) (p : Intervals) (start w wait : Float) (piece : ℕ)
    → invert_cumulative_hazard h p start w ≡ some_wait wait piece → NoPiece h w wait piece
