-- Document 01, "Hazard arithmetic": hazard_at, cumulative_hazard and invert_cumulative_hazard of competing_risks.rs, operation by
-- operation at binary64, each rounded once. Gompertz is the one with b = 0: its hazard is eta at every time. Document 02, change 4: kind
-- 4, Weibull with shape 2; change 6: the piece that a wait ends in.
use Rattle.std.specs.Prelude.{Bool, true, false, cond, ◌&&◌, List, [], ◌∷◌, ℕ, zero, suc, min, eqb, get_or, drop, Float, Option, None, Some}
use Rattle.std.specs.Float.{nan, binary64}
use Rattle.std.specs.Float.Ieee.{add, sub, mul, div, lt, le}
use Rattle.hazards.specs.Floats.{z, two, not_below_zero, is_finite_wait}
use Rattle.hazards.specs.Roots.{nearest_root}
use Rattle.hazards.specs.declared.rates.HazardRate.{HazardRate}
use Rattle.hazards.specs.declared.rates.HazardRate.TheVariants.{Zero, Constant, Gompertz, Piecewise, Weibull}
use Rattle.hazards.specs.declared.rates.Intervals.{Intervals}
use Rattle.hazards.specs.declared.rates.Pairs.{Pairs}
use Rattle.hazards.specs.declared.rates.Wait.{Wait}

-- ---- the kinds: 0 Zero, 1 Constant, 2 Gompertz, 3 PiecewiseConstant, 4 Weibull with shape 2

-- how many there are
abbrev pub kinds : ℕ
kinds = 5

-- the hazard of a kind and its first; a kind off the list is refused by 4 before this is asked
abbrev pub rate_of_kind : ℕ → Float → HazardRate
rate_of_kind kind first =
    cond (eqb kind 0) Zero
    (cond (eqb kind 1) (Constant first)
    (cond (eqb kind 2) (Gompertz first) (cond (eqb kind 3) (Piecewise first) (Weibull first))))

-- a hazard's kind
abbrev pub kind_number : HazardRate → ℕ
kind_number Zero = 0
kind_number (Constant rate) = 1
kind_number (Gompertz eta) = 2
kind_number (Piecewise trailing) = 3
kind_number (Weibull scale) = 4

-- the hazard's first: its own rate or scale, +0.0 for Zero
unfoldable pub own_rate : HazardRate → Float
own_rate Zero = z
own_rate (Constant rate) = rate
own_rate (Gompertz eta) = eta
own_rate (Piecewise trailing) = trailing
own_rate (Weibull scale) = scale

-- a wait and the piece that it ends in
abbrev pub some_wait : Float → ℕ → Option Wait
some_wait time piece = Some (record { time = time; piece = piece })

-- ---- a hazard curve in pieces

-- a piece: its rate holds before its end, and no longer at it
pub record Piece : Type 0 where
  pub end : Float
  pub rate : Float

-- n pieces from index i on, where f gives the piece at each index
unfoldable pub pieces_by : (ℕ → Piece) → ℕ → ℕ → List Piece
pieces_by f i zero = []
pieces_by f i (suc n) = f i ∷ pieces_by f (suc i) n

-- the index of the first piece that does not end at or before t; one past the last where there is none
unfoldable pub first_after : Float → List Piece → ℕ
first_after t [] = 0
first_after t (p ∷ ps) = cond (le p.end t) (suc (first_after t ps)) 0

-- ---- the pairs of a hazard as in SET, each a piece

-- the intervals of two arrays and a count
abbrev pub intervals_from : List Float → List Float → ℕ → Intervals
intervals_from ends rates count = record { ends = ends; rates = rates; count = count }

-- the pairs that are lent
abbrev pub lent_pairs : Pairs → Intervals
lent_pairs p = intervals_from p.ends.now p.rates.now p.count

-- the pair at an index of the two arrays
abbrev pub pair_at : Intervals → ℕ → Piece
pair_at p i = record { end = get_or p.ends i nan; rate = get_or p.rates i nan }

-- document 01: the used pairs are the first count, at most 8, of kind 3
unfoldable pub used_pairs : Intervals → List Piece
used_pairs p = pieces_by (pair_at p) 0 (min p.count 8)

-- whether a hazard uses pairs at all
unfoldable pub uses_pairs : HazardRate → Bool
uses_pairs Zero = false
uses_pairs (Constant rate) = false
uses_pairs (Gompertz eta) = false
uses_pairs (Piecewise trailing) = true
uses_pairs (Weibull scale) = false

-- ---- Weibull with shape 2, a hazard proportional to age: "with q = t / scale, … hazard is (2 / scale) times q and the cumulative is q
-- times q", for t from +0.0 on; "a scale at most 0 is Zero"

unfoldable pub weibull_hazard : Float → Float → Float
weibull_hazard scale t = cond (le scale z) z (mul binary64 (div binary64 two scale) (div binary64 t scale))

unfoldable pub weibull_cumulative : Float → Float → Float
weibull_cumulative scale t =
    let q = div binary64 t scale in
    cond (le scale z) z (mul binary64 q q)

-- "scale times s, less the start, not below 0, where s is the f64 nearest to the root of (cumulative at start + w)"
unfoldable pub weibull_wait : Float → Float → Float → Option Wait
weibull_wait scale start w =
    let s = nearest_root (add binary64 (weibull_cumulative scale start) w) in
    cond (le scale z) None (some_wait (not_below_zero (sub binary64 (mul binary64 scale s) start)) 0)

-- ---- hazard_at

-- the rate of the first piece whose end is above t, else the trailing rate
unfoldable pub piecewise_hazard : List Piece → Float → Float → Float
piecewise_hazard [] trailing t = not_below_zero trailing
piecewise_hazard (p ∷ ps) trailing t = cond (lt t p.end) (not_below_zero p.rate) (piecewise_hazard ps trailing t)

unfoldable pub hazard_of_rate : HazardRate → Intervals → Float → Float
hazard_of_rate Zero p t = z
hazard_of_rate (Constant rate) p t = not_below_zero rate
hazard_of_rate (Gompertz eta) p t = cond (le eta z) z eta
hazard_of_rate (Piecewise trailing) p t = piecewise_hazard (used_pairs p) trailing t
hazard_of_rate (Weibull scale) p t = weibull_hazard scale (not_below_zero t)

unfoldable pub hazard_at : HazardRate → Intervals → Float → Float
hazard_at h p t = cond (lt t z) z (hazard_of_rate h p t)

-- ---- cumulative_hazard

-- cum is the hazard accumulated up to cur, where the first piece begins
unfoldable pub piecewise_cumulative : List Piece → Float → Float → Float → Float → Float
piecewise_cumulative [] trailing t cum cur = add binary64 cum (mul binary64 (not_below_zero trailing) (sub binary64 t cur))
piecewise_cumulative (p ∷ ps) trailing t cum cur =
    let rate = not_below_zero p.rate in
    cond (le t p.end) (add binary64 cum (mul binary64 rate (sub binary64 t cur)))
    (piecewise_cumulative ps trailing t (add binary64 cum (mul binary64 rate (sub binary64 p.end cur))) p.end)

unfoldable pub cumulative_of_rate : HazardRate → Intervals → Float → Float
cumulative_of_rate Zero p t = z
cumulative_of_rate (Constant rate) p t = mul binary64 (not_below_zero rate) t
cumulative_of_rate (Gompertz eta) p t = cond (le eta z) z (mul binary64 eta t)
cumulative_of_rate (Piecewise trailing) p t = piecewise_cumulative (used_pairs p) trailing t z z
cumulative_of_rate (Weibull scale) p t = weibull_cumulative scale t

unfoldable pub cumulative_hazard : HazardRate → Intervals → Float → Float
cumulative_hazard h p t = cond (le t z) z (cumulative_of_rate h p t)

-- ---- invert_cumulative_hazard, which "now gives, with the wait, the piece number: the index of the pair used, count for the trailing
-- rate, 0 for all other kinds, for w at most 0 and where there is no finite wait"

-- a wait that ends in a piece; one that is not finite ends in none
unfoldable pub ends_in : ℕ → Float → Option Wait
ends_in piece wait = some_wait wait (cond (is_finite_wait wait) piece 0)

-- w is reached at cur + w / rate, in a piece; the wait is that less the start
abbrev pub wait_through : ℕ → Float → Float → Float → Float → Option Wait
wait_through piece start cur rate w = ends_in piece (sub binary64 (add binary64 cur (div binary64 w rate)) start)

-- w is the hazard still to accumulate from cur on, which lies in the first of these pieces or at its beginning. The first has index i,
-- and so the trailing rate, which follows the last, has the number of pairs
unfoldable pub wait_from : ℕ → List Piece → Float → Float → Float → Float → Option Wait
wait_from i [] trailing start cur w =
    let rate = not_below_zero trailing in
    cond (le rate z) None (wait_through i start cur rate w)
wait_from i (p ∷ ps) trailing start cur w =
    let rate = not_below_zero p.rate in
    let capacity = mul binary64 rate (sub binary64 p.end cur) in
    cond (lt z rate && le w capacity) (wait_through i start cur rate w)
    (wait_from (suc i) ps trailing start p.end (sub binary64 w capacity))

-- the pieces that end at or before the start are passed over
abbrev pub piecewise_wait : List Piece → Float → Float → Float → Option Wait
piecewise_wait ps trailing start w =
    let i = first_after start ps in
    wait_from i (drop i ps) trailing start start w

unfoldable pub constant_wait : Float → Float → Option Wait
constant_wait rate w = cond (le rate z) None (some_wait (div binary64 w rate) 0)

unfoldable pub wait_of_rate : HazardRate → Intervals → Float → Float → Option Wait
wait_of_rate Zero p start w = None
wait_of_rate (Constant rate) p start w = constant_wait (not_below_zero rate) w
wait_of_rate (Gompertz eta) p start w = constant_wait eta w
wait_of_rate (Piecewise trailing) p start w = piecewise_wait (used_pairs p) trailing start w
wait_of_rate (Weibull scale) p start w = weibull_wait scale start w

-- w at most 0 waits 0.0, even for Zero
unfoldable pub invert_cumulative_hazard : HazardRate → Intervals → Float → Float → Option Wait
invert_cumulative_hazard h p start w = cond (le w z) (some_wait z 0) (wait_of_rate h p (not_below_zero start) w)
