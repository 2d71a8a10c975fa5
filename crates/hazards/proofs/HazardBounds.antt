-- At ages up to a, those below 0 among them, a sound hazard is at most 2^81 times a and its cumulative hazard at most c, where `Room a c`:
-- 2^121 and 2^160 at times up to 2^40. An accumulated hazard stays finite.
use mathlib.Core.Path.{refl}
use mathlib.Core.Bool.{false, not}
use mathlib.Core.List.{List}
use Prim.Native.Nat.{ℕ, ◌*◌, ◌^◌}
use lib.IntN.{ℤ}
use lib.Dec.{T, lit≤}
use lib.Ieee.{Float, binary64, add, sub, mul, div, lt, le}
use Rattle.hazards.specs.Floats.{z, not_below_zero, in_range}
use Rattle.hazards.specs.Rates.{Piece, piecewise_hazard, weibull_hazard, hazard_of_rate, hazard_at, piecewise_cumulative, weibull_cumulative}
use Rattle.hazards.specs.Rates.{cumulative_of_rate, cumulative_hazard, own_rate}
use Rattle.hazards.specs.declared.rates.HazardRate.{HazardRate}
use Rattle.hazards.specs.declared.rates.HazardRate.TheVariants.{Zero, Constant, Gompertz, Piecewise, Weibull}
use Rattle.hazards.specs.declared.rates.Intervals.{Intervals}
use Rattle.hazards.proofs.Bounds.{Upto, largest}
use Rattle.hazards.proofs.Signs.{Signed}
use Rattle.hazards.proofs.Upto.{for_fin, wider, zero_upto, either_upto}
use Rattle.hazards.proofs.UptoOrder.{lt-le, not-le, upto_le, zero-le-upto}
use Rattle.hazards.proofs.UptoOperations.{add-upto, mul-upto, sub-upto, div-upto}
use Rattle.hazards.proofs.UptoClamped.{clamped_difference_upto}
use Rattle.hazards.proofs.Limits.{rate_upto, positive_rate_upto, time_stays, two_upto, slope_lands, Room, times}
use Rattle.hazards.proofs.SoundPairs.{sound, Following, none, next, own_rate_sound, pairs_sound, SoundScale, scale_sound}

upto_signed : {b : ℕ} {x : Float} → Upto b x → Signed false x
upto_signed u = for_fin (Signed false) (λ (m : ℕ) (e : ℤ). refl) u

-- a rate in range, with room
rate_within : (rate : Float) → T (in_range rate) → Upto (2 ^ 48) (not_below_zero rate)
rate_within rate i = wider (2 ^ 48) (lit≤ tt) (rate_upto rate i)

-- a time or age in scales
scales_upto : {a c : ℕ} {t scale : Float} → Room a c → Upto a t → SoundScale scale → Upto (a * 2 ^ 40) (div binary64 t scale)
scales_upto {a} room u s = div-upto (2 ^ 40) (a * 2 ^ 40) u s.bounded s.counts s.smallest room.scaled

-- ---- the hazard

piecewise_hazard_upto : {before : Float} {ps : List Piece} (trailing t : Float) → T (in_range trailing) → Following before ps
    → Upto (2 ^ 48) (piecewise_hazard ps trailing t)
unfolding piecewise_hazard
piecewise_hazard_upto trailing t i none = rate_within trailing i
piecewise_hazard_upto trailing t i (next {p} l m r f) =
    either_upto (lt t p.end) (λ y. r) (λ n. piecewise_hazard_upto trailing t i f)

module _ {a c : ℕ} (room : Room a c) where
  weibull_hazard_upto : (scale t : Float) → (T (not (le scale z)) → SoundScale scale) → Upto a t
      → Upto (2 ^ 81 * a) (weibull_hazard scale t)
  unfolding weibull_hazard
  weibull_hazard_upto scale t s u =
      either_upto (le scale z) (λ y. zero_upto (2 ^ 81 * a))
      (λ n.
      mul-upto (2 ^ 81 * a)
      (div-upto (2 ^ 40) (2 ^ 41) two_upto (s n).bounded (s n).counts (s n).smallest slope_lands)
      (scales_upto room u (s n)) room.sloped)

  hazard_of_rate_upto : (h : HazardRate) (p : Intervals) (t : Float) → T (sound h p) → T (in_range (own_rate h)) → Upto a (not_below_zero t)
      → Upto (2 ^ 81 * a) (hazard_of_rate h p t)
  unfolding hazard_of_rate own_rate
  hazard_of_rate_upto Zero p t s i u = zero_upto (2 ^ 81 * a)
  hazard_of_rate_upto (Constant rate) p t s i u = wider (2 ^ 81 * a) room.rates (rate_within rate i)
  hazard_of_rate_upto (Gompertz eta) p t s i u =
      wider (2 ^ 81 * a) room.rates
      (either_upto (le eta z) (λ y. zero_upto (2 ^ 48)) (λ n. wider (2 ^ 48) (lit≤ tt) (positive_rate_upto eta n i)))
  hazard_of_rate_upto (Piecewise trailing) p t s i u =
      wider (2 ^ 81 * a) room.rates (piecewise_hazard_upto trailing t i (pairs_sound trailing p s))
  hazard_of_rate_upto (Weibull scale) p t s i u = weibull_hazard_upto scale (not_below_zero t) (scale_sound scale p s) u

  pub hazard_upto : (h : HazardRate) (p : Intervals) (t : Float) → T (sound h p) → Upto a (not_below_zero t)
      → Upto (2 ^ 81 * a) (hazard_at h p t)
  unfolding hazard_at
  hazard_upto h p t s u =
      either_upto (lt t z) (λ y. zero_upto (2 ^ 81 * a)) (λ n. hazard_of_rate_upto h p t s (own_rate_sound h p s) u)

  -- ---- the cumulative hazard

  -- one piece, from cur to end
  piece_upto : {cum cur end rate : Float} → Upto c cum → Upto a cur → Upto a end → T (le cur end) → Upto (2 ^ 48) rate
      → Upto c (add binary64 cum (mul binary64 rate (sub binary64 end cur)))
  piece_upto u v w o i =
      add-upto c u (mul-upto (2 ^ 48 * a) i (sub-upto a w v o room.ages) room.products) room.pieces

  module _ (trailing t : Float) (i : T (in_range trailing)) (w : Upto a t) where
    piecewise_cumulative_upto : {ps : List Piece} (cum cur : Float) → Following cur ps → Upto c cum → Upto a cur → T (le cur t)
        → Upto c (piecewise_cumulative ps trailing t cum cur)
    unfolding piecewise_cumulative
    piecewise_cumulative_upto cum cur none u v o = piece_upto u v w o (rate_within trailing i)
    piecewise_cumulative_upto cum cur (next {p} l m r f) u v o =
        either_upto (le t p.end) (λ y. piece_upto u v w o r)
        (λ n.
        let before = not-le w m n in
        let e = upto_le p.end (upto_signed m) before w in
        piecewise_cumulative_upto (add binary64 cum (mul binary64 (not_below_zero p.rate) (sub binary64 p.end cur))) p.end f
        (piece_upto u v e (lt-le cur p.end l) r) e before)

  -- a rate times a time
  product_upto : {rate t : Float} → Upto (2 ^ 48) rate → Upto a t → Upto c (mul binary64 rate t)
  product_upto u v = wider c room.single (mul-upto (2 ^ 48 * a) u v room.products)

  weibull_cumulative_upto : (scale t : Float) → (T (not (le scale z)) → SoundScale scale) → Upto a t → Upto c (weibull_cumulative scale t)
  unfolding weibull_cumulative
  weibull_cumulative_upto scale t s u =
      either_upto (le scale z) (λ y. zero_upto c)
      (λ n.
      let q = scales_upto room u (s n) in
      mul-upto c q q room.squared)

  cumulative_of_rate_upto : (h : HazardRate) (p : Intervals) (t : Float) → T (sound h p) → T (in_range (own_rate h)) → Upto a t
      → Upto c (cumulative_of_rate h p t)
  unfolding cumulative_of_rate own_rate
  cumulative_of_rate_upto Zero p t s i u = zero_upto c
  cumulative_of_rate_upto (Constant rate) p t s i u = product_upto (rate_within rate i) u
  cumulative_of_rate_upto (Gompertz eta) p t s i u =
      either_upto (le eta z) (λ y. zero_upto c) (λ n. product_upto (wider (2 ^ 48) (lit≤ tt) (positive_rate_upto eta n i)) u)
  cumulative_of_rate_upto (Piecewise trailing) p t s i u =
      piecewise_cumulative_upto trailing t i u z z (pairs_sound trailing p s) (zero_upto c) (zero_upto a) (zero-le-upto u)
  cumulative_of_rate_upto (Weibull scale) p t s i u = weibull_cumulative_upto scale t (scale_sound scale p s) u

  -- a bounds a t above 0
  pub cumulative_upto : (h : HazardRate) (p : Intervals) (t : Float) → T (sound h p) → (T (not (le t z)) → Upto a t)
      → Upto c (cumulative_hazard h p t)
  unfolding cumulative_hazard
  cumulative_upto h p t s u =
      either_upto (le t z) (λ y. zero_upto c) (λ n. cumulative_of_rate_upto h p t s (own_rate_sound h p s) (u n))

  -- ---- an accumulated hazard

  pub accumulated_upto : (h : HazardRate) (p : Intervals) {accumulated : Float} (t : Float) → T (sound h p) → Upto largest accumulated
      → Upto a t → Upto largest (add binary64 accumulated (cumulative_hazard h p t))
  accumulated_upto h p t s u v = add-upto largest u (cumulative_upto h p t s (λ n. v)) room.accumulated

-- over the time from start to now, or none where start is later
pub settled_upto : (h : HazardRate) (p : Intervals) {accumulated start now : Float} → T (sound h p) → Upto largest accumulated
    → Upto (2 ^ 40) start → Upto (2 ^ 40) now
    → Upto largest (add binary64 accumulated (cumulative_hazard h p (not_below_zero (sub binary64 now start))))
settled_upto h p {start} {now} s u v w =
    accumulated_upto times h p (not_below_zero (sub binary64 now start)) s u (clamped_difference_upto (2 ^ 40) w v time_stays)
