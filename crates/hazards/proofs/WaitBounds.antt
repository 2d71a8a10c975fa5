-- The wait for a sound hazard, from a start with any bound and for a w above 0, is no NaN and not below 0; any wait is a value that
-- binary64 holds.
use mathlib.Core.Path.{refl, sym}
use mathlib.Core.Bool.{Bool, true, false, not, cond, ◌&&◌}
use mathlib.Core.List.{List, [], ◌∷◌}
use Prim.Native.Nat.{ℕ, ◌*◌, ◌^◌}
use native.Mathlib.Nat.{le_trans, le_of_eq, mul-one}
use lib.IntN.{ℤ}
use lib.ListN.{drop}
use lib.Dec.{T, le→leb, nltb→le}
use lib.Ieee.{Float, nan, inf, fin, binary64, up, down, add, sub, mul, div, lt, le, fits}
use lib.Ieee.Fits.{and_l, cond-fits, sub-fits, div-fits}
use Rattle.std.specs.Prelude.{Option, None}
use Rattle.hazards.specs.Floats.{z, not_below_zero, in_range}
use Rattle.hazards.specs.Rates.{Piece, used_pairs, first_after, ends_in, wait_through, wait_from, constant_wait, wait_of_rate}
use Rattle.hazards.specs.Rates.{invert_cumulative_hazard}
use Rattle.hazards.specs.Rates.{weibull_wait, own_rate, some_wait}
use Rattle.hazards.specs.declared.rates.HazardRate.{HazardRate}
use Rattle.hazards.specs.declared.rates.HazardRate.TheVariants.{Zero, Constant, Gompertz, Piecewise, Weibull}
use Rattle.hazards.specs.declared.rates.Intervals.{Intervals}
use Rattle.hazards.specs.declared.rates.Wait.{Wait}
use Rattle.hazards.proofs.Bounds.{Upto}
use Rattle.hazards.proofs.Signs.{Signed, NotBelow, Held}
use Rattle.hazards.proofs.Cases.{by_test}
use Rattle.hazards.proofs.Upto.{for_fin, zero_upto, lands}
use Rattle.hazards.proofs.UptoOrder.{lt-le, not-le, not-le-lt, nothing-le, le-refl-upto, le-trans-upto}
use Rattle.hazards.proofs.UptoOperations.{mul-upto, sub-upto}
use Rattle.hazards.proofs.Exact.{sum-at-least}
use Rattle.hazards.proofs.SignedOperations.{div-signed, add-signed, sub-signed}
use Rattle.hazards.proofs.Limits.{rate_upto, positive_rate_upto, span_lands, capacity_lands, nothing_lands}
use Rattle.hazards.proofs.SoundPairs.{sound, Following, none, next, own_rate_sound, pairs_sound, after_following}

-- ---- held: nothing is asked of the hazard
either_held : (b : Bool) (x y : Option Wait) → Held x → Held y → Held (cond b x y)
either_held true x y h k = h
either_held false x y h k = k

piecewise_held : (i : ℕ) (ps : List Piece) (trailing start cur w : Float) → Held (wait_from i ps trailing start cur w)
unfolding wait_from ends_in
piecewise_held i [] trailing start cur w =
    let rate = not_below_zero trailing in
    either_held (le rate z) None _ tt (sub-fits binary64 (add binary64 cur (div binary64 w rate)) start)
piecewise_held i (p ∷ ps) trailing start cur w =
    let rate = not_below_zero p.rate in
    let capacity = mul binary64 rate (sub binary64 p.end cur) in
    either_held (lt z rate && le w capacity) _ _
    (sub-fits binary64 (add binary64 cur (div binary64 w rate)) start)
    (piecewise_held _ ps trailing start p.end (sub binary64 w capacity))

constant_held : (rate w : Float) → Held (constant_wait rate w)
unfolding constant_wait
constant_held rate w = either_held (le rate z) None (some_wait (div binary64 w rate) 0) tt (div-fits binary64 w rate)

zero_held : T (fits binary64 z)
unfolding fits
zero_held = tt

clamped_held : (x : Float) → T (fits binary64 x) → T (fits binary64 (not_below_zero x))
unfolding not_below_zero
clamped_held x f = cond-fits binary64 (lt z x) x z f zero_held

weibull_held : (scale start w : Float) → Held (weibull_wait scale start w)
unfolding weibull_wait
weibull_held scale start w =
    either_held (le scale z) None _ tt (clamped_held (sub binary64 _ start) (sub-fits binary64 _ start))

wait_of_rate_held : (h : HazardRate) (p : Intervals) (start w : Float) → Held (wait_of_rate h p start w)
unfolding wait_of_rate
wait_of_rate_held Zero p start w = tt
wait_of_rate_held (Constant rate) p start w = constant_held (not_below_zero rate) w
wait_of_rate_held (Gompertz eta) p start w = constant_held eta w
wait_of_rate_held (Piecewise trailing) p start w =
    let i = first_after start (used_pairs p) in
    piecewise_held i (drop i (used_pairs p)) trailing start start w
wait_of_rate_held (Weibull scale) p start w = weibull_held scale start w

pub invert_held : (h : HazardRate) (p : Intervals) (start w : Float) → Held (invert_cumulative_hazard h p start w)
unfolding invert_cumulative_hazard
invert_held h p start w =
    either_held (le w z) (some_wait z 0) (wait_of_rate h p (not_below_zero start) w) zero_held
    (wait_of_rate_held h p (not_below_zero start) w)

-- ---- not below 0
either_not_below : (b : Bool) (x y : Option Wait) → (T b → NotBelow x) → (T (not b) → NotBelow y) → NotBelow (cond b x y)
either_not_below true x y f g = f tt
either_not_below false x y f g = g tt

-- a clear sign and not above 0: it is 0
not_above_zero : {b : ℕ} {x : Float} → Upto b x → T (not (lt z x)) → Upto 0 x
not_above_zero u h = for_fin (λ (w : Float). T (not (lt z w)) → Upto 0 w) go u h
  where
    go : (m : ℕ) (e : ℤ) → T (not (lt z (fin false m e))) → Upto 0 (fin false m e)
    go m e h = record {
      holds =
          le→leb (m * up e) (0 * down e)
          (le_trans (le_of_eq (sym (mul-one (m * up e)))) (nltb→le (0 * 1 * down e) (m * up e * 1) (unfold lt in h)));
    }

-- b bounds w, and rounding keeps that bound
module _ (b : ℕ) (stays : T (lands b b)) {a : ℕ} (start : Float) (sf : T (fits binary64 start)) (su : Upto a start) where
  through_not_below : (i : ℕ) {r k : ℕ} {rate w cur : Float} → Upto r rate → T (lt z rate) → Upto b w → Upto k cur → T (le start cur)
      → NotBelow (wait_through i start cur rate w)
  unfolding ends_in
  through_not_below i {rate} {w} {cur} u a v c o =
      let d = div-signed v u a in
      sub-signed (add binary64 cur (div binary64 w rate)) (add-signed (div binary64 w rate) c d) su
      (sum-at-least (div binary64 w rate) sf su c o d)

  -- what a piece leaves of w: its rate is 0, and so is its capacity, or its capacity is below w
  left_upto : {r k : ℕ} {rate w capacity : Float} → Upto r rate → Upto b w → Upto k capacity → (Upto 0 rate → Upto 0 capacity)
      → T (not (lt z rate && le w capacity)) → Upto b (sub binary64 w capacity)
  left_upto {rate} {w} {capacity} u v c nothing n = sub-upto b v c (go (lt z rate) (not_above_zero u) n) stays
    where
      go : (t : Bool) → (T (not t) → Upto 0 rate) → T (not (t && le w capacity)) → T (le capacity w)
      go true f n = not-le v c n
      go false f n = nothing-le (nothing (f tt)) v

  module _ (trailing : Float) (within : T (in_range trailing)) where
    piecewise_not_below : (i : ℕ) {k : ℕ} {ps : List Piece} (cur w : Float) → Following cur ps → Upto b w → Upto k cur → T (le start cur)
        → NotBelow (wait_from i ps trailing start cur w)
    unfolding wait_from
    piecewise_not_below i cur w none v c o =
        let rate = not_below_zero trailing in
        let u = rate_upto trailing within in
        either_not_below (le rate z) None _ (λ t. tt)
        (λ n. through_not_below _ u (not-le-lt (zero_upto 0) u n) v c o)
    piecewise_not_below i cur w (next {p} {ps} l m r f) v c o =
        let rate = not_below_zero p.rate in
        let capacity = mul binary64 rate (sub binary64 p.end cur) in
        let span = sub-upto (2 ^ 43) m c (lt-le cur p.end l) span_lands in
        either_not_below (lt z rate && le w capacity) _ _
        (λ t. through_not_below _ r (and_l (lt z rate) (le w capacity) t) v c o)
        (λ n.
        piecewise_not_below _ p.end (sub binary64 w capacity) f
        (left_upto r v (mul-upto (2 ^ 91) r span capacity_lands) (λ q. mul-upto 0 q span nothing_lands) n)
        m (le-trans-upto su c m o (lt-le cur p.end l)))

constant_not_below : {b : ℕ} {w : Float} (rate : Float) → Upto b w → (T (not (le rate z)) → Upto (2 ^ 40) rate)
    → NotBelow (constant_wait rate w)
unfolding constant_wait
constant_not_below {w} rate v u =
    either_not_below (le rate z) None (some_wait (div binary64 w rate) 0) (λ t. tt)
    (λ n. div-signed v (u n) (not-le-lt (zero_upto 0) (u n) n))

-- not below 0, whatever it is before
clamped_signed : (x : Float) → Signed false (not_below_zero x)
unfolding not_below_zero lt
clamped_signed nan = refl
clamped_signed (inf true) = refl
clamped_signed (inf false) = refl
clamped_signed (fin true m e) = refl
clamped_signed (fin false m e) = by_test (lt z (fin false m e)) (λ q. rw q) (λ q. rw q)

weibull_not_below : (scale start w : Float) → NotBelow (weibull_wait scale start w)
unfolding weibull_wait
weibull_not_below scale start w = either_not_below (le scale z) None _ (λ t. tt) (λ n. clamped_signed (sub binary64 _ start))

wait_of_rate_not_below : {a : ℕ} (h : HazardRate) (p : Intervals) (start : Float) {w : Float} (b : ℕ) → T (sound h p)
    → T (in_range (own_rate h)) → T (fits binary64 start) → Upto a start → Upto b w → T (lands b b) → NotBelow (wait_of_rate h p start w)
unfolding wait_of_rate own_rate
wait_of_rate_not_below Zero p start b s i sf su v l = tt
wait_of_rate_not_below (Constant rate) p start b s i sf su v l = constant_not_below (not_below_zero rate) v (λ n. rate_upto rate i)
wait_of_rate_not_below (Gompertz eta) p start b s i sf su v l = constant_not_below eta v (λ n. positive_rate_upto eta n i)
wait_of_rate_not_below (Piecewise trailing) p start {w} b s i sf su v l =
    let after = after_following su (pairs_sound trailing p s) in
    piecewise_not_below b l start sf su trailing i (first_after start (used_pairs p)) start w after v su (le-refl-upto su)
wait_of_rate_not_below (Weibull scale) p start {w} b s i sf su v l = weibull_not_below scale start w

-- b bounds a w above 0
pub invert_not_below : {a : ℕ} (h : HazardRate) (p : Intervals) (start : Float) {w : Float} (b : ℕ) → T (sound h p)
    → T (fits binary64 start) → Upto a (not_below_zero start) → (T (not (le w z)) → Upto b w) → T (lands b b) → NotBelow (invert_cumulative_hazard h p start w)
unfolding invert_cumulative_hazard
invert_not_below h p start {w} b s sf su v l =
    either_not_below (le w z) (some_wait z 0) (wait_of_rate h p (not_below_zero start) w) (λ t. refl)
    (λ n.
    wait_of_rate_not_below h p (not_below_zero start) b s (own_rate_sound h p s) (clamped_held start sf)
    su (v n) l)
