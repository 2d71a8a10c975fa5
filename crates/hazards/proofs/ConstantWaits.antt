-- The rates that give a wait are the constant rates with which the cumulative hazard's inversion answers that wait.
use mathlib.Core.Path.{◌≡◌, sym, ap, ◌∙◌}
use mathlib.Core.Bool.{Bool, true, false, true≢false}
use mathlib.Core.List.{[]}
use Prim.Native.Nat.{ℕ, ◌+◌, ◌*◌}
use native.Mathlib.Nat.{mul-pos}
use native.Mathlib.Omega.{arith}
use lib.Dec.{T, lt→ltb, lit<}
use lib.IntN.{ℤ, pos}
use lib.Ieee.{Float, nan, inf, fin, binary64, up, down, div, lt, le}
use lib.Ieee.Fits.{and_i, and_r, down_pos}
use lib.Ieee.Bits.{is_true}
use lib.Ieee.Positive.{positive}
use Rattle.std.specs.Prelude.{Option, None, Some}
use Rattle.hazards.specs.Floats.{z, limit, minus_limit, not_below_zero, in_range}
use Rattle.hazards.specs.Rates.{constant_wait, wait_of_rate, invert_cumulative_hazard, some_wait}
use Rattle.hazards.specs.RateForWait.{within_limits, Gives, WaitsExactly, ConstantHazard}
use Rattle.hazards.specs.declared.rates.HazardRate.TheVariants.{Constant}
use Rattle.hazards.specs.declared.rates.Intervals.{Intervals}
use Rattle.hazards.specs.declared.rates.Wait.{Wait}
use Rattle.hazards.proofs.Cases.{by_test}
use Rattle.hazards.proofs.UptoOrder.{lt-le}
use Rattle.hazards.proofs.AboveZero.{above_positive, positive_above, positive-not-le-zero}
use Rattle.hazards.proofs.RateForWait.{gives_positive, threshold_positive}

-- ---- the wait of a constant rate

module _ (w rate : Float) (p : T (positive w)) (pairs : Intervals) (start : Float) where
  waits_through : T (positive rate) → invert_cumulative_hazard (Constant rate) pairs start w ≡ some_wait (div binary64 w rate) 0
  unfolding invert_cumulative_hazard wait_of_rate not_below_zero constant_wait
  waits_through q =
      rw (positive-not-le-zero w p, is_true (lt z rate) (positive_above rate q), positive-not-le-zero rate q)

  waits_never : lt z rate ≡ false → invert_cumulative_hazard (Constant rate) pairs start w ≡ None
  unfolding invert_cumulative_hazard wait_of_rate not_below_zero constant_wait le
  waits_never n = rw (positive-not-le-zero w p, n)

abbrev is_after : Option Wait → Bool
is_after (Some wait) = true
is_after None = false

abbrev time_of : Option Wait → Float
time_of (Some wait) = wait.time
time_of None = z

-- ---- a rate above 0 and at most 2^40 is in range

minus_below : (m : ℕ) (e : ℤ) → T (lt minus_limit (fin false m e))
unfolding lt
minus_below m e =
    let a = mul-pos (lit< {m = 0} {n = 1 * up (pos 40)} tt) (down_pos e) in
    lt→ltb 0 (1 * up (pos 40) * down e + m * up e * 1) (omega (arith, a))

above_minus : (x : Float) → T (positive x) → T (le minus_limit x)
above_minus nan p = absurd p
above_minus (inf s) p = absurd p
above_minus (fin true m e) p = absurd p
above_minus (fin false m e) p = lt-le minus_limit (fin false m e) (minus_below m e)

-- ---- both ways

module _ (w wait rate : Float) (l : within_limits w wait ≡ true) where
  p : T (positive w)
  p = threshold_positive w wait l

  gives_waits : Gives w wait rate → WaitsExactly w wait rate
  unfolding in_range
  gives_waits g =
      let q = gives_positive w wait rate g in
      record {
        is_f64 = g.is_f64;
        in_limits = and_i (le minus_limit rate) (le rate limit) (above_minus rate q) g.at_most;
        waits = λ pairs start. waits_through w rate p pairs start q ∙ ap (λ (t : Float). some_wait t 0) g.exactly;
      }

  nothing : Intervals
  nothing = record { ends = []; rates = []; count = 0 }

  waits_gives : WaitsExactly w wait rate → Gives w wait rate
  unfolding in_range
  waits_gives h =
      let at = and_r (le minus_limit rate) (le rate limit) h.in_limits in
      by_test (lt z rate)
      (λ t. record {
        is_f64 = h.is_f64;
        is_positive = rw t tt;
        at_most = at;
        exactly =
            ap time_of (sym (waits_through w rate p nothing z (above_positive rate limit (rw t tt) at tt)) ∙ h.waits nothing z);
      })
      (λ n. absurd (true≢false (sym (ap is_after (sym (waits_never w rate p nothing z n) ∙ h.waits nothing z)))))

pub constant_hazard : ConstantHazard
constant_hazard w wait rate l = (gives_waits w wait rate l, waits_gives w wait rate l)
