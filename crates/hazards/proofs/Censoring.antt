-- A wait that is longer than the rounded span from the age to the censor age, as the sampler has it: age and wait together are not below
-- the censor age, in exact numbers and rounded. A wait that is not longer is at most the rounded difference of the ages.
use mathlib.Core.Path.{◌≡◌, refl, sym, ◌∙◌}
use mathlib.Core.Bool.{true, false, true≢false}
use Prim.Native.Nat.{ℕ, ◌+◌, ◌-◌, ◌*◌, ◌^◌, ◌≤◌, ◌<◌}
use native.Mathlib.Nat.{mul_comm, mul-sub, mul-le-mul_right, mul-pos}
use native.Mathlib.Omega.{arith}
use borrow.Author.Tests.{leb-true, leb-false}
use lib.IntN.{ℤ}
use lib.Dec.{T, leb}
use lib.Ieee.{Float, nan, inf, fin, binary64, up, down, round, add, sub, lt, le, eq, fits}
use lib.Ieee.Positive.{num, den, den_pos}
use Rattle.hazards.specs.Floats.{z, not_below_zero, is_finite_wait}
use Rattle.hazards.proofs.Bounds.{Upto}
use Rattle.hazards.proofs.Signs.{Signed}
use Rattle.hazards.proofs.Cases.{by_test}
use Rattle.hazards.proofs.Exact.{round_at_least}
use Rattle.hazards.proofs.FiniteOrder.{not-lt-cross, cross-not-lt, cross-le, not-lt-trans}
use Rattle.hazards.proofs.Limits.{time_stays}
use Rattle.hazards.proofs.PublicBounds.{upto_finite}
use Rattle.hazards.proofs.Upto.{for_fin, zero_upto, own_upto}
use Rattle.hazards.proofs.UptoClamped.{clamped_difference_upto}
use Rattle.hazards.proofs.UptoOperations.{round_signed, add_is, sub-up-is, sub-upto}
use Rattle.hazards.proofs.UptoOrder.{le→cross, lt-le}

-- the two ages, at most 2^40 and not below 0
module _ (age censor : Float) (u : Upto (2 ^ 40) age) (v : Upto (2 ^ 40) censor) where
  abbrev span : Float
  span = not_below_zero (sub binary64 censor age)

  pub span_finite : T (is_finite_wait span)
  span_finite = upto_finite (clamped_difference_upto (2 ^ 40) v u time_stays)

  -- ---- a wait that is at most the rounded difference is not longer than the span

  within_span : (wait : Float) → T (is_finite_wait wait) → T (is_finite_wait (sub binary64 censor age))
      → lt (sub binary64 censor age) wait ≡ false → lt span wait ≡ false
  unfolding not_below_zero
  within_span wait f g h =
      let x = sub binary64 censor age in
      by_test (lt z x) (λ p. rw p h) (λ p. rw p (not-lt-trans z x wait (upto_finite (zero_upto 0)) g f p h))

  module _ (later : lt age censor ≡ true) where
    ahead : T (le age censor)
    ahead = lt-le age censor (rw later tt)

    difference_finite : T (is_finite_wait (sub binary64 censor age))
    difference_finite = upto_finite (sub-upto (2 ^ 40) v u ahead time_stays)

    -- and the other way round
    pub within_difference : (wait : Float) → T (is_finite_wait wait) → lt span wait ≡ false → le wait (sub binary64 censor age) ≡ true
    unfolding not_below_zero
    within_difference wait f h =
        let x = sub binary64 censor age in
        let zero : T (is_finite_wait z) = upto_finite (zero_upto 0) in
        cross-le wait x f difference_finite
        (not-lt-cross x wait difference_finite f
        (by_test (lt z x) (λ p. rw p at h)
        (λ p. not-lt-trans x z wait difference_finite zero f (cross-not-lt x z difference_finite zero (omega arith)) (rw p at h))))

    -- a wait that is at most the exact difference is at most the rounded one
    rounded-difference : (m : ℕ) (e : ℤ) → T (fits binary64 (fin false m e))
        → m * up e * (den censor * den age) ≤ (num censor * den age - num age * den censor) * down e
        → lt (sub binary64 censor age) (fin false m e) ≡ false
    rounded-difference m e held h =
        let over = round_at_least m e (num censor * den age - num age * den censor) (den censor * den age) held
        (mul-pos (den_pos censor) (den_pos age)) h in
        let d = sub-upto (2 ^ 40) v u ahead time_stays in
        cross-not-lt (sub binary64 censor age) (fin false m e) difference_finite (upto_finite (own_upto m e))
        (le→cross (own_upto m e) d (rw (sub-up-is v u ahead) over))

  -- ---- past the span

  -- age and wait together are not below the censor age, in exact numbers
  abbrev Sum : Float → Type 0
  Sum wait = num censor * (den age * den wait) ≤ (num age * den wait + num wait * den age) * den censor

  not_ahead : (wait : Float) → lt age censor ≡ false → Sum wait
  not_ahead wait h =
      let o = not-lt-cross age censor (upto_finite u) (upto_finite v) h in
      let k : num censor * den age * den wait ≤ num age * den censor * den wait = mul-le-mul_right (den wait) o in
      omega arith

  -- if not, the wait would be at most the exact difference
  short : (a c p q m d : ℕ) → (a * d + m * p) * q < c * (p * d) → m * (q * p) ≤ (c * p - a * q) * d
  short a c p q m d h =
      let k : m * (q * p) + a * q * d ≤ c * p * d = omega arith in
      let e : (c * p - a * q) * d ≡ c * p * d - a * q * d =
      mul_comm (c * p - a * q) d ∙ mul-sub d (c * p) (a * q) ∙ rw (mul_comm d (c * p), mul_comm d (a * q)) in
      rw e (omega arith)

  ahead_past : (m : ℕ) (e : ℤ) → T (fits binary64 (fin false m e)) → lt age censor ≡ true → lt span (fin false m e) ≡ true
      → Sum (fin false m e)
  ahead_past m e held later h =
      let sum = (num age * down e + m * up e * den age) * den censor in
      let whole = num censor * (den age * down e) in
      by_test (leb whole sum) (λ p. leb-true whole sum p)
      (λ p.
      let close = short (num age) (num censor) (den age) (den censor) (m * up e) (down e) (leb-false whole sum p) in
      absurd
      (true≢false
      (sym h
      ∙ within_span (fin false m e) (upto_finite (own_upto m e)) (difference_finite later) (rounded-difference later m e held close))))

  -- what is longer than the span has its sign clear
  longer : (wait : Float) → T (is_finite_wait wait) → lt span wait ≡ true → (b : ℕ) × Upto b wait
  longer nan f h = absurd (unfold is_finite_wait le lt eq in f)
  longer (inf true) f h = absurd (unfold is_finite_wait le lt eq in f)
  longer (inf false) f h = absurd (unfold is_finite_wait le lt eq in f)
  longer (fin true m e) f h =
      absurd
      (true≢false
      (sym h
      ∙ for_fin (λ (x : Float). lt x (fin true m e) ≡ false) (λ n d. unfold lt in refl)
      (clamped_difference_upto (2 ^ 40) v u time_stays)))
  longer (fin false m e) f h = (m * up e, own_upto m e)

  pub past_exactly : (wait : Float) → T (is_finite_wait wait) → T (fits binary64 wait) → lt span wait ≡ true → Sum wait
  past_exactly wait f held h =
      for_fin (λ (x : Float). T (fits binary64 x) → lt span x ≡ true → Sum x)
      (λ m e held h. by_test (lt age censor) (λ later. ahead_past m e held later h) (λ level. not_ahead (fin false m e) level))
      (longer wait f h).1 held h

  -- ---- the rounded sum

  sum-not-below : (m : ℕ) (e : ℤ) (s : Float) → Signed false s → T (le (fin false m e) s) → lt s (fin false m e) ≡ false
  sum-not-below m e nan g h = absurd g
  sum-not-below m e (inf true) g h = absurd (true≢false g)
  sum-not-below m e (inf false) g h = unfold lt in refl
  sum-not-below m e (fin true n d) g h = absurd (true≢false g)
  sum-not-below m e (fin false n d) g h =
      cross-not-lt (fin false n d) (fin false m e) (upto_finite (own_upto n d)) (upto_finite (own_upto m e))
      (le→cross (own_upto m e) (own_upto n d) h)

  -- the exact sum is a / c
  sum-held : (a c : ℕ) (x : Float) → 0 < c → Upto (2 ^ 40) x → T (fits binary64 x) → num x * c ≤ a * den x
      → lt (round binary64 false a c) x ≡ false
  sum-held a c x pos w held h =
      for_fin (λ (y : Float). T (fits binary64 y) → num y * c ≤ a * den y → lt (round binary64 false a c) y ≡ false)
      (λ m e held h.
      sum-not-below m e (round binary64 false a c) (round_signed binary64 false a c) (round_at_least m e a c held pos h))
      w held h

  pub past_rounded : (wait : Float) → T (is_finite_wait wait) → T (fits binary64 wait) → T (fits binary64 censor) → lt span wait ≡ true
      → lt (add binary64 age wait) censor ≡ false
  past_rounded wait f held censor-held h =
      rw (add_is u (longer wait f h).1)
      (sum-held (num age * den wait + num wait * den age) (den age * den wait) censor (mul-pos (den_pos age) (den_pos wait)) v censor-held
      (past_exactly wait f held h))
