-- The values of the public calls, whatever they are given: none is a NaN, and none is below 0. A hazard is at most 2^121 and a cumulative
-- hazard at most 2^160; a wait may be infinite. The delta of the sampler's answer is finite.
use mathlib.Core.Path.{◌≡◌, refl}
use mathlib.Core.Bool.{Bool, true, false, ◌&&◌}
use mathlib.Core.List.{List, [], ◌∷◌}
use Prim.Native.Nat.{ℕ, suc, ◌^◌}
use lib.IntN.{ℤ}
use lib.Dec.{T, eqb}
use lib.ListN.{take}
use lib.Ieee.{Float, inf, binary64, sub, lt, le, fits}
use lib.Ieee.Fits.{and_i, and_l, and_r}
use borrow.Author.Tests.{eqb-true}
use Rattle.std.specs.Prelude.{Option, Some, None}
use Rattle.hazards.specs.Floats.{z, limit, minus_limit, not_below_zero, in_range, is_time, is_finite_wait}
use Rattle.hazards.specs.Lists.{foldl}
use Rattle.hazards.specs.Refusals.{range_fault_unless}
use Rattle.hazards.specs.Checks.{hazard_faults, hazard_of, intervals_of}
use Rattle.hazards.specs.Rates.{invert_cumulative_hazard}
use Rattle.hazards.specs.Evaluations.{without_value, without_wait, inverted, evaluation_refusal, unless_refused}
use Rattle.hazards.specs.Evaluations.{evaluated_hazard_at, evaluated_cumulative_hazard, evaluated_inversion}
use Rattle.hazards.specs.Draws.{threshold_at}
use Rattle.hazards.specs.Ties.{capped_piece, candidate_after, tie_breaker_of, precedes, earlier, earliest}
use Rattle.hazards.specs.Sampler.{faults_of_all, settings_faults, sample_refusal, in_cause_order, candidates, censored_at, sampled_event}
use Rattle.hazards.specs.Sampler.{sample_next}
use Rattle.hazards.proofs.Bounds.{Upto}
use Rattle.hazards.proofs.Signs.{NotBelow, Signed}
use Rattle.hazards.specs.declared.checks.HazardFields.{HazardFields}
use Rattle.hazards.specs.Evaluations.{Evaluation}
use Rattle.hazards.specs.Evaluations.{Inversion}
use Rattle.hazards.specs.declared.rates.Wait.{Wait}
use Rattle.hazards.specs.declared.ties.Candidate.{Candidate}
use Rattle.hazards.specs.declared.ties.TieBreaker.{TieBreaker}
use Rattle.hazards.specs.declared.sampler.CompetingCause.{CompetingCause}
use Rattle.hazards.specs.declared.sampler.SampleSettings.{SampleSettings}
use Rattle.hazards.proofs.AcceptedFlags.{accepted, joined_accepted}
use Rattle.hazards.proofs.AcceptedHazards.{not-false, accepted_sound}
use Rattle.hazards.proofs.Cases.{by_test}
use Rattle.hazards.proofs.HazardBounds.{hazard_upto, cumulative_upto}
use Rattle.hazards.proofs.Limits.{limit_upto, rate_upto, positive_rate_upto, time_upto, time_stays, times}
use Rattle.hazards.proofs.ListLaws.{foldl-append}
use Rattle.hazards.proofs.SamplerLaws.{fault_number, passed_faults}
use Rattle.hazards.proofs.Upto.{for_fin, zero_upto}
use Rattle.hazards.proofs.UptoClamped.{clamped_below, clamped_difference_upto}
use Rattle.hazards.proofs.UptoOperations.{sub-upto}
use Rattle.hazards.proofs.UptoOrder.{lt-le, zero-le-upto}
use Rattle.hazards.proofs.WaitBounds.{invert_not_below}
use Rattle.hazards.proofs.SoundPairs.{sound}

-- ---- the three evaluations

-- what holds of a refusal and of what is accepted
unless-refused : {A : Type 0} (P : A → Type 0) (without : ℕ → A) (n : ℕ) (e : A) → ((m : ℕ) → P (without m)) → (n ≡ 0 → P e)
    → P (unless_refused without n e)
unless-refused P without n e o h = by_test (eqb n 0) (λ q. rw q (h (eqb-true n 0 q))) (λ q. rw q (o n))

-- what holds of +0.0 and of an accepted evaluation's value
value_of : (P : Float → Type 0) (n : ℕ) (e : Evaluation) → P z → (n ≡ 0 → P e.value) → P (unless_refused without_value n e).value
value_of P n e o h = unless-refused (λ (r : Evaluation). P r.value) without_value n e (λ m. o) h

-- an evaluation that is not refused: the hazard is sound, and the test on the floats held
module _ (f : HazardFields) (ok : Bool) (h : evaluation_refusal f ok ≡ 0) where
  hazard_accepted : T (sound (hazard_of f) (intervals_of f))
  hazard_accepted = accepted_sound f (joined_accepted (hazard_faults f) (range_fault_unless ok) h).0

  limits_accepted : T ok
  limits_accepted = not-false ok (accepted (range_fault_unless ok) (joined_accepted (hazard_faults f) (range_fault_unless ok) h).1).range

pub evaluated_hazard_upto : (f : HazardFields) (t : Float) → Upto (2 ^ 121) (evaluated_hazard_at f t).value
unfolding evaluated_hazard_at
evaluated_hazard_upto f t =
    value_of (Upto (2 ^ 121)) (evaluation_refusal f (in_range t)) _ (zero_upto (2 ^ 121))
    (λ h.
    hazard_upto times (hazard_of f) (intervals_of f) t (hazard_accepted f (in_range t) h)
    (rate_upto t (limits_accepted f (in_range t) h)))

pub evaluated_cumulative_upto : (f : HazardFields) (t : Float) → Upto (2 ^ 160) (evaluated_cumulative_hazard f t).value
unfolding evaluated_cumulative_hazard
evaluated_cumulative_upto f t =
    value_of (Upto (2 ^ 160)) (evaluation_refusal f (in_range t)) _ (zero_upto (2 ^ 160))
    (λ h.
    cumulative_upto times (hazard_of f) (intervals_of f) t (hazard_accepted f (in_range t) h)
    (λ n. positive_rate_upto t n (limits_accepted f (in_range t) h)))

wait_value : (wait : Option Wait) → NotBelow wait → Signed false (inverted wait).wait
wait_value (Some wait) s = s
wait_value None s = refl

-- every f64 is a start that binary64 holds
pub evaluated_inversion_signed : (f : HazardFields) (start w : Float) → T (fits binary64 start)
    → Signed false (evaluated_inversion f start w).wait
unfolding evaluated_inversion in_range
evaluated_inversion_signed f start w held =
    let ok = in_range start && in_range w in
    unless-refused (λ (i : Inversion). Signed false i.wait) without_wait (evaluation_refusal f ok) _ (λ n. refl)
    (λ h.
    let both = limits_accepted f ok h in
    let wait = invert_cumulative_hazard (hazard_of f) (intervals_of f) start w in
    wait_value wait
    (invert_not_below (hazard_of f) (intervals_of f) start (2 ^ 40) (hazard_accepted f ok h) held
    (clamped_below start (and_r (le minus_limit start) (le start limit) (and_l (in_range start) (in_range w) both)) limit_upto)
    (λ n. positive_rate_upto w n (and_r (in_range start) (in_range w) both)) time_stays))

-- ---- the sampler

-- a value with a bound is at least 0 and not infinite
pub upto_finite : {b : ℕ} {x : Float} → Upto b x → T (is_finite_wait x)
unfolding is_finite_wait
upto_finite {b} {x} u =
    and_i (le z x) (lt x (inf false)) (zero-le-upto u)
    (for_fin (λ (w : Float). T (lt w (inf false))) (λ (m : ℕ) (e : ℤ). unfold lt in tt) u)

-- the earliest of candidates, if there is one, is at such a time
abbrev FiniteEarliest : Option Candidate → Type 0
FiniteEarliest None = Unit {0}
FiniteEarliest (Some c) = T (is_finite_wait c.time)

module _ (tie : TieBreaker) where
  earlier_finite : (best : Option Candidate) (c : Candidate) → FiniteEarliest best → T (is_finite_wait c.time)
      → FiniteEarliest (earlier tie best c)
  unfolding earlier
  earlier_finite None c b t = t
  earlier_finite (Some best) c b t = by_test (precedes tie c best) (λ e. rw e t) (λ e. rw e b)

  after_finite : (best : Option Candidate) (cause priority : ℕ) (wait : Option Wait) → FiniteEarliest best
      → FiniteEarliest (foldl (earlier tie) best (candidate_after cause priority (λ t. t) wait))
  unfolding foldl candidate_after
  after_finite best cause priority None b = b
  after_finite best cause priority (Some wait) b =
      by_test (is_finite_wait wait.time)
      (λ (e : is_finite_wait wait.time ≡ true).
      rw e (earlier_finite best (record { cause_id = cause; priority = priority; time = wait.time; piece = capped_piece wait.piece }) b (rw e tt)))
      (λ e. rw e b)

  candidates_finite : (best : Option Candidate) (cs : List CompetingCause) (age : Float) (threshold : ℕ → Float) (k : ℕ) → FiniteEarliest best
      → FiniteEarliest (foldl (earlier tie) best (candidates cs age threshold k))
  unfolding foldl candidates
  candidates_finite best [] age threshold k b = b
  candidates_finite best (c ∷ cs) age threshold k b =
      let h = c.hazard in
      let wait = invert_cumulative_hazard (hazard_of h) (intervals_of h) age (threshold k) in
      let first = candidate_after c.cause_id c.priority (λ t. t) wait in
      rw (foldl-append (earlier tie) best first (candidates cs age threshold (suc k)))
      (candidates_finite (foldl (earlier tie) best first) cs age threshold (suc k)
      (after_finite best c.cause_id c.priority wait b))

module _ (s : SampleSettings) (age : T (is_time s.current_age)) (censor : T (is_time s.censor_age)) where
  censored_finite : (e : Option Candidate) → FiniteEarliest e → T (is_finite_wait (censored_at e s).delta)
  unfolding censored_at
  censored_finite None t =
      by_test (eqb s.has_censor 1)
      (λ p.
      by_test (lt s.current_age s.censor_age)
      (λ (l : lt s.current_age s.censor_age ≡ true).
      rw (p, l)
      (upto_finite
      (sub-upto (2 ^ 40) (time_upto _ censor) (time_upto _ age) (lt-le s.current_age s.censor_age (rw l tt)) time_stays)))
      (λ l. rw (p, l) (upto_finite (zero_upto 0))))
      (λ p. rw p (upto_finite (zero_upto 0)))
  censored_finite (Some c) t =
      let span = not_below_zero (sub binary64 s.censor_age s.current_age) in
      by_test (eqb s.has_censor 1)
      (λ p.
      by_test (lt span c.time)
      (λ l. rw (p, l) (upto_finite (clamped_difference_upto (2 ^ 40) (time_upto _ censor) (time_upto _ age) time_stays)))
      (λ l. rw (p, l) t))
      (λ p. rw p t)

  event_finite : (cs : List CompetingCause) (stream : List ℕ) (position : ℕ) → T (is_finite_wait (sampled_event cs s stream position).delta)
  unfolding sampled_event earliest
  event_finite [] stream position = upto_finite (zero_upto 0)
  event_finite (c ∷ cs) stream position =
      let tie = tie_breaker_of s.tie in
      censored_finite (earliest tie (candidates (in_cause_order (c ∷ cs)) s.current_age (threshold_at stream) position))
      (candidates_finite tie None (in_cause_order (c ∷ cs)) s.current_age (threshold_at stream) position tt)

-- settings that are not refused: age and censor age are times
pub ages_accepted : (causes : List CompetingCause) (n : ℕ) (s : SampleSettings) → fault_number causes n s ≡ 0
    → T (is_time s.current_age && is_time s.censor_age)
unfolding settings_faults
ages_accepted causes n s h =
    not-false (is_time s.current_age && is_time s.censor_age)
    (accepted (settings_faults s) (joined_accepted (settings_faults s) (faults_of_all (take n causes)) h).0).range

pub sampled_delta_finite : (causes : List CompetingCause) (n : ℕ) (s : SampleSettings) (stream : List ℕ) (position : ℕ)
    → T (is_finite_wait (sample_next causes n s stream position).answer.delta)
unfolding sample_next
sampled_delta_finite causes n s stream position =
    let number = sample_refusal causes n s stream position in
    by_test (eqb number 0)
    (λ q.
    let times = ages_accepted causes n s (passed_faults causes n s stream position (eqb-true number 0 q)) in
    let age = is_time s.current_age in
    let censor = is_time s.censor_age in
    rw q (event_finite s (and_l age censor times) (and_r age censor times) (take n causes) stream position))
    (λ q. rw q (upto_finite (zero_upto 0)))
