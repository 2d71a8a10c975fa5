-- From the first bit pattern whose quotient is at most the wait to the answer of change 11 of document 02; and that only one is right.
use mathlib.Core.Path.{◌≡◌, refl, sym, ap, ◌∙◌, subst}
use mathlib.Core.Bool.{true, false, not, ◌&&◌, true≢false}
use Prim.Native.Nat.{ℕ, suc, ◌^◌, ◌≤◌, ◌<◌}
use native.Mathlib.Nat.{le_of_eq, lt_of_not-le, le_of_suc-le-suc}
use native.Mathlib.Omega.{arith}
use lib.Dec.{T, lit<}
use lib.Ieee.{Float, nan, inf, fin, is_nan, binary64, fits, of_bits, to_bits, div, lt, le, eq}
use lib.Ieee.Fits.{div-fits}
use lib.Ieee.Bits.{is_true, of_bits-to_bits, of_bits-fits}
use lib.Ieee.Positive.{positive, between}
use Rattle.hazards.specs.Floats.{z, limit, inverse_limit, most_threshold}
use Rattle.hazards.specs.Refusals.{no_rate}
use Rattle.hazards.specs.FirstPlace.{FirstPlace}
use Rattle.hazards.specs.RateForWait.{within_limits, Gives, answered, Answers, OneAnswer}
use Rattle.hazards.specs.RateForWait.Answers.{smallest, none, outside}
use Rattle.hazards.specs.RateForWaitInternals.{past_limit, used_up_within, exact_rate}
use Rattle.hazards.specs.RateForWait.{RateForWait}
use Rattle.hazards.proofs.Bounds.{Upto}
use Rattle.hazards.proofs.Signs.{Signed}
use Rattle.hazards.proofs.Cases.{by_test, both_true}
use Rattle.hazards.proofs.UptoOrder.{upto_le, le-refl-upto, le-trans-upto}
use Rattle.hazards.proofs.Limits.{limit_upto}
use Rattle.hazards.proofs.PublicBounds.{upto_finite}
use Rattle.hazards.proofs.FiniteOrder.{eq-cross, cross-le, eq_self}
use Rattle.hazards.proofs.AboveZero.{above_positive, positive_above, positive_signed}
use Rattle.hazards.proofs.PatternOrder.{pattern_positive, pattern_above_zero, pattern-le, le-patterns, le-both-ways}
use Rattle.hazards.proofs.QuotientOrder.{quotient_falls, quotient_signed}
use Rattle.hazards.proofs.Bisection.{GoesOn}

-- ---- 2^40 and its pattern, one before `past_limit`

limit_pattern : to_bits binary64 limit ≡ 0x4270_0000_0000_0000
unfolding to_bits
limit_pattern = refl

pattern_limit : of_bits binary64 0x4270_0000_0000_0000 ≡ limit
unfolding of_bits
pattern_limit = refl

limit_fits : T (fits binary64 limit)
unfolding fits
limit_fits = tt

rate_positive : (b : ℕ) → 1 ≤ b → b < past_limit → T (positive (of_bits binary64 b))
rate_positive b l h = pattern_positive b l (omega arith)

pub gives_positive : (w wait rate : Float) → Gives w wait rate → T (positive rate)
gives_positive w wait rate g = above_positive rate limit g.is_positive g.at_most tt

signed_number : (x : Float) → Signed false x → T (not (is_nan x))
unfolding is_nan
signed_number nan s = absurd s
signed_number (inf t) s = tt
signed_number (fin t m e) s = tt

module _ (w wait : Float) (within : within_limits w wait ≡ true) where
  -- ---- what the limits say

  limits : (T (lt z w) × T (le w most_threshold)) × (T (le inverse_limit wait) × T (le wait limit))
  unfolding within_limits
  limits =
      let b = both_true (lt z w && le w most_threshold) (le inverse_limit wait && le wait limit) within in
      let t = both_true (lt z w) (le w most_threshold) b.0 in
      let d = both_true (le inverse_limit wait) (le wait limit) b.1 in
      ((rw t.0 tt, rw t.1 tt), (rw d.0 tt, rw d.1 tt))

  pub threshold_positive : T (positive w)
  threshold_positive = above_positive w most_threshold limits.0.0 limits.0.1 tt

  wait_positive : T (positive wait)
  wait_positive = between inverse_limit wait limit tt tt limits.1.0 limits.1.1

  wait_upto : Upto (2 ^ 40) wait
  wait_upto = upto_le wait (positive_signed wait wait_positive) limits.1.1 limit_upto

  pub nearest_number : T (not (is_nan (div binary64 w wait)))
  nearest_number = signed_number (div binary64 w wait) (quotient_signed w wait threshold_positive wait_positive)

  -- ---- the quotients

  quotient : ℕ → Float
  quotient b = div binary64 w (of_bits binary64 b)

  falls : (a b : ℕ) → 1 ≤ a → a ≤ b → b < past_limit → T (le (quotient b) (quotient a))
  unfolding quotient
  falls a b l h k =
      quotient_falls w (of_bits binary64 a) (of_bits binary64 b) threshold_positive (rate_positive a l (omega arith))
      (rate_positive b (omega arith) k) (pattern-le a b h (omega arith))

  signed : (b : ℕ) → 1 ≤ b → b < past_limit → Signed false (quotient b)
  unfolding quotient
  signed b l h = quotient_signed w (of_bits binary64 b) threshold_positive (rate_positive b l h)

  -- what is at most the wait is finite
  quotient_upto : (b : ℕ) → 1 ≤ b → b < past_limit → T (le (quotient b) wait) → Upto (2 ^ 40) (quotient b)
  quotient_upto b l h k = upto_le (quotient b) (signed b l h) k wait_upto

  pub goes_on : GoesOn (used_up_within w wait) 1 past_limit
  unfolding used_up_within quotient
  goes_on a b l h k t =
      let d = falls a b l h k in
      let v = quotient_upto a l (omega arith) (rw t tt) in
      is_true (le (quotient b) wait)
      (le-trans-upto (upto_le (quotient b) (signed b (omega arith) k) d v) v wait_upto d (rw t tt))

  module _ {first : ℕ} (m : FirstPlace (used_up_within w wait) 1 past_limit first) where
    -- ---- a rate that gives the wait has a pattern from the first place on

    module _ (rate : Float) (g : Gives w wait rate) where
      pattern : ℕ
      pattern = to_bits binary64 rate

      same : of_bits binary64 pattern ≡ rate
      unfolding pattern
      same = of_bits-to_bits binary64 rate g.is_f64

      begins : 1 ≤ pattern
      unfolding pattern
      begins = pattern_above_zero rate g.is_f64 (gives_positive w wait rate g)

      ends : pattern < past_limit
      unfolding pattern
      ends =
          let h = le-patterns rate limit g.is_f64 (gives_positive w wait rate g) limit_fits tt g.at_most in
          omega (arith, limit_pattern, h)

      gives : quotient pattern ≡ wait
      unfolding quotient
      gives = ap (div binary64 w) same ∙ g.exactly

      holds_there : used_up_within w wait pattern ≡ true
      unfolding used_up_within quotient
      holds_there = is_true _ (subst (λ (x : Float). T (le x wait)) (sym gives) (le-refl-upto wait_upto))

      from_first : first ≤ pattern
      from_first =
          le_of_suc-le-suc
          (lt_of_not-le (λ (l : suc pattern ≤ first). true≢false (sym holds_there ∙ m.before pattern begins l)))

      first_there : first < past_limit
      first_there = omega (arith, from_first, ends)

      -- the first quotient is not below the wait either
      reached : T (le wait (quotient first))
      reached = subst (λ (x : Float). T (le x (quotient first))) gives (falls first pattern m.begins from_first ends)

      not_above : T (le (of_bits binary64 first) rate)
      not_above = subst (λ (x : Float). T (le (of_bits binary64 first) x)) same (pattern-le first pattern from_first (omega (arith, ends)))

    -- ---- the first rate gives the wait, or none does

    module _ (there : first < past_limit) where
      at-most : T (le (quotient first) wait)
      unfolding used_up_within quotient
      at-most = rw (m.holds there) tt

      -- where the two compare equal they are the same
      given : T (fits binary64 wait) → eq (div binary64 w (of_bits binary64 first)) wait ≡ true → Gives w wait (of_bits binary64 first)
      unfolding quotient
      given f e =
          let v = quotient_upto first m.begins there at-most in
          let crossed = le_of_eq (sym (eq-cross (quotient first) wait e)) in
          let above : T (le wait (quotient first)) =
          rw (cross-le wait (quotient first) (upto_finite wait_upto) (upto_finite v) crossed) tt in
          let q = between wait (quotient first) wait wait_positive wait_positive above at-most in
          record {
            is_f64 = of_bits-fits binary64 first;
            is_positive = positive_above (of_bits binary64 first) (rate_positive first m.begins there);
            at_most =
                subst (λ (x : Float). T (le (of_bits binary64 first) x)) pattern_limit
                (pattern-le first 0x4270_0000_0000_0000 (omega (arith, there)) (lit< tt));
            exactly =
                le-both-ways (quotient first) wait (div-fits binary64 w (of_bits binary64 first)) q f wait_positive at-most above;
          }

      pub first_answers : T (fits binary64 wait) → eq (div binary64 w (of_bits binary64 first)) wait ≡ true
          → Answers w wait (answered 0 (of_bits binary64 first))
      first_answers f e = smallest (of_bits binary64 first) within (given f e) not_above

      pub none_answers : T (fits binary64 wait) → eq (div binary64 w (of_bits binary64 first)) wait ≡ false
          → Answers w wait (answered no_rate z)
      unfolding quotient
      none_answers f e =
          none within
          (λ (rate : Float) (g : Gives w wait rate).
          let above = reached rate g in
          let q = between wait (quotient first) wait wait_positive wait_positive above at-most in
          let same-wait =
          le-both-ways (quotient first) wait (div-fits binary64 w (of_bits binary64 first)) q f wait_positive at-most above in
          true≢false (sym (eq_self wait (upto_finite wait_upto)) ∙ ap (λ (x : Float). eq x wait) (sym same-wait) ∙ e))

      pub exact_answers : T (fits binary64 wait) → Answers w wait (exact_rate w wait first)
      unfolding exact_rate
      exact_answers f =
          by_test (eq (div binary64 w (of_bits binary64 first)) wait) (λ e. rw e (first_answers f e)) (λ e. rw e (none_answers f e))

    pub past_answers : first ≡ past_limit → Answers w wait (answered no_rate z)
    past_answers e =
        none within (λ (rate : Float) (g : Gives w wait rate). let h = first_there rate g in absurd (omega arith))

-- ---- what an answer's number says

pub answer_gives : (w wait : Float) (a : RateForWait) → Answers w wait a → a.number ≡ 0 → Gives w wait a.rate
answer_gives w wait a (smallest r l g s) e = g
answer_gives w wait a (none l n) e = absurd (omega (arith, e))
answer_gives w wait a (outside l) e = absurd (omega (arith, e))

pub answer_none : (w wait : Float) (a : RateForWait) → Answers w wait a → a.number ≡ no_rate → (rate : Float) → Gives w wait rate → ⊥
answer_none w wait a (smallest r l g s) e = absurd (omega (arith, e))
answer_none w wait a (none l n) e = n
answer_none w wait a (outside l) e = absurd (omega (arith, e))

-- ---- one answer alone is right

same_rate : (w wait a b : Float) → Gives w wait a → Gives w wait b → T (le a b) → T (le b a) → a ≡ b
same_rate w wait a b g h = le-both-ways a b g.is_f64 (gives_positive w wait a g) h.is_f64 (gives_positive w wait b h)

pub one_answer : OneAnswer
one_answer w wait a b (smallest r l g s) (smallest t k h u) = ap (answered 0) (same_rate w wait r t g h (s t h) (u r g))
one_answer w wait a b (smallest r l g s) (none k n) = absurd (n r g)
one_answer w wait a b (smallest r l g s) (outside k) = absurd (true≢false (sym l ∙ k))
one_answer w wait a b (none l n) (smallest t k h u) = absurd (n t h)
one_answer w wait a b (none l n) (none k o) = refl
one_answer w wait a b (none l n) (outside k) = absurd (true≢false (sym l ∙ k))
one_answer w wait a b (outside l) (smallest t k h u) = absurd (true≢false (sym k ∙ l))
one_answer w wait a b (outside l) (none k n) = absurd (true≢false (sym k ∙ l))
one_answer w wait a b (outside l) (outside k) = refl
