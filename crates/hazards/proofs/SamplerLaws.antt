-- What the sampler's loops and branches come to: a record, the draws, the candidates in order, the event and the refusals.
use mathlib.Core.Path.{◌≡◌, refl, sym, ◌∙◌, ap}
use mathlib.Core.Bool.{Bool, true, false, cond}
use mathlib.Core.List.{List, [], ◌∷◌}
use Prim.Native.Nat.{ℕ, zero, suc, ◌+◌, ◌-◌, ◌<◌, ◌≤◌, min}
use native.Mathlib.Numerals.{add-one}
use native.Mathlib.Omega.{arith}
use borrow.Author.Tests.{eq-eqb, ne_eqb, lt-ltb, le-ltb, ltb-false}
use lib.Dec.{eqb, ltb, eqb-suc-zero}
use lib.ListN.{length, get_or, take, length-take}
use lib.Ieee.{Float, nan}
use Rattle.std.specs.Prelude.{Option, None}
use Rattle.hazards.specs.Lists.{foldl}
use Rattle.hazards.specs.Refusals.{joined, is_reserved, identifier_fault_if, number_of, too_many_causes, invalid_state}
use Rattle.hazards.specs.Answers.{no_event}
use Rattle.hazards.specs.Checks.{hazard_faults, hazard_of, intervals_of}
use Rattle.hazards.specs.Rates.{invert_cumulative_hazard}
use Rattle.hazards.specs.Draws.{stream_length, threshold_at, draw_at}
use Rattle.hazards.specs.Ties.{candidate_after, tie_breaker_of, earlier, earliest}
use Rattle.hazards.specs.Sampler.{faults_of_all, settings_faults, draws_refusal, sample_refusal, in_cause_order}
use Rattle.hazards.specs.Sampler.{candidates, censored_at, sampled_event, sample_next}
use Rattle.hazards.specs.SamplerInternals.{examined_record, drawn_threshold}
use Rattle.hazards.specs.declared.refusals.Faults.{Faults}
use Rattle.hazards.specs.declared.rates.Wait.{Wait}
use Rattle.hazards.specs.declared.ties.TieBreaker.{TieBreaker}
use Rattle.hazards.specs.declared.answers.Answer.{Answer}
use Rattle.hazards.specs.declared.sampler.CompetingCause.{CompetingCause}
use Rattle.hazards.specs.declared.sampler.SampleSettings.{SampleSettings}
use Rattle.hazards.specs.declared.ties.Candidate.{Candidate}
use Rattle.hazards.proofs.ListLaws.{foldl-append}
use Rattle.hazards.proofs.Pieces.{one_left, none_left}

-- past the end of an array of records
abbrev pub no_record : CompetingCause
no_record = record {
  cause_id = 0;
  priority = 0;
  hazard = record { kind = 0; first = nan; count = 0; ends = []; rates = [] };
}

-- ---- what is found of a record: the faults of its fields and of its id, and its wait

pub examined_is : (c : CompetingCause) (age w : Float) {a b : Faults} {wait : Option Wait} → a ≡ hazard_faults c.hazard
    → b ≡ joined a (identifier_fault_if (is_reserved c.cause_id))
    → wait ≡ invert_cumulative_hazard (hazard_of c.hazard) (intervals_of c.hazard) age w
    → record { faults = b; wait = wait } ≡ examined_record c age w
examined_is c age w ea eb ew =
    let e = eb ∙ ap (λ (f : Faults). joined f (identifier_fault_if (is_reserved c.cause_id))) ea in
    λ i. record { faults = e i; wait = ew i }

-- ---- draws: the one at i passes, it fails, none is left

pub one_on : (p i : ℕ) → suc (p + i) ≡ p + (i + 1)
one_on p i = omega arith

module _ (stream : List ℕ) (position n i : ℕ) where
  pub draws_next : i < n → (draw_at stream (position + i)).number ≡ 0
      → draws_refusal stream (position + i) (n - i) ≡ draws_refusal stream (position + (i + 1)) (n - (i + 1))
  unfolding draws_refusal
  draws_next h e = rw (one_left n i h, eq-eqb (draw_at stream (position + i)).number 0 e, one_on position i)

  pub draws_fail : i < n → ((draw_at stream (position + i)).number ≡ 0 → ⊥)
      → draws_refusal stream (position + i) (n - i) ≡ (draw_at stream (position + i)).number
  unfolding draws_refusal
  draws_fail h e = rw (one_left n i h, ne_eqb (draw_at stream (position + i)).number 0 e)

  pub draws_none : n ≤ i → draws_refusal stream (position + i) (n - i) ≡ 0
  unfolding draws_refusal
  draws_none h = rw (none_left n i h)

-- ---- the number of the draws from any position, and from one within the stream

abbrev pub drawn_number : List ℕ → ℕ → ℕ → ℕ
drawn_number stream position n = cond (ltb (stream_length stream) position) invalid_state (draws_refusal stream position n)

module _ (stream : List ℕ) (position n : ℕ) where
  pub drawn_within : position ≤ stream_length stream → {d : ℕ} → d ≡ draws_refusal stream position n → d ≡ drawn_number stream position n
  drawn_within h e = e ∙ rw (le-ltb (stream_length stream) position h)

-- ---- no candidate more: there is no wait

module _ (tie : TieBreaker) (best : Option Candidate) (cause priority : ℕ) (time_of : Float → Float) {wait : Option Wait} where
  pub candidate_never : wait ≡ None → best ≡ foldl (earlier tie) best (candidate_after cause priority time_of wait)
  unfolding candidate_after foldl
  candidate_never e = rw e

-- ---- the candidates in order: the first record's and the others', and the same with thresholds that were drawn beforehand

pub candidates_next : (tie : TieBreaker) (best : Option Candidate) (age : Float) (threshold : ℕ → Float) (k : ℕ) {cs : List CompetingCause}
    (c : CompetingCause) {rest : List CompetingCause} {wait : Option Wait} {next : Option Candidate} → cs ≡ c ∷ rest
    → wait ≡ (examined_record c age (threshold k)).wait
    → next ≡ foldl (earlier tie) best (candidate_after c.cause_id c.priority (λ t. t) wait)
    → foldl (earlier tie) best (candidates cs age threshold k) ≡ foldl (earlier tie) next (candidates rest age threshold (k + 1))
unfolding candidates
candidates_next tie best age threshold k c {rest} {wait} first ew e =
    rw (first, ← ew, ← add-one)
    (foldl-append (earlier tie) best (candidate_after c.cause_id c.priority (λ t. t) wait) (candidates rest age threshold (k + 1))
    ∙ ap (λ (b : Option Candidate). foldl (earlier tie) b (candidates rest age threshold (k + 1))) (sym e))

drawn_from : (cs : List CompetingCause) (age : Float) (f g : ℕ → Float) (k place : ℕ)
    → ((i : ℕ) → i < length cs → f (k + i) ≡ g (place + i)) → candidates cs age f k ≡ candidates cs age g place
unfolding candidates
drawn_from [] age f g k place reads = refl
drawn_from (c ∷ cs) age f g k place reads =
    let k₀ : k + 0 ≡ k = omega arith in
    let p₀ : place + 0 ≡ place = omega arith in
    let first = rw (k₀, p₀) at (reads 0 (omega arith)) in
    let others = drawn_from cs age f g (suc k) (suc place)
    (λ i h.
    let kᵢ : k + suc i ≡ suc k + i = omega arith in
    let pᵢ : place + suc i ≡ suc place + i = omega arith in
    rw (kᵢ, pᵢ) at (reads (suc i) (omega arith))) in
    rw (first, others)

pub drawn-candidates : (cs : List CompetingCause) (age : Float) (thresholds : List Float) (stream : List ℕ) (position : ℕ)
    → ((i : ℕ) → i < length cs → get_or thresholds i nan ≡ threshold_at stream (position + i))
    → candidates cs age (drawn_threshold thresholds) 0 ≡ candidates cs age (threshold_at stream) position
drawn-candidates cs age thresholds stream position reads =
    drawn_from cs age (drawn_threshold thresholds) (threshold_at stream) 0 position
    (λ i h. let e : 0 + i ≡ i = omega arith in rw e (reads i h))

pub sampled_some : (cs : List CompetingCause) (s : SampleSettings) (stream : List ℕ) (position : ℕ) → 0 < length cs
    → sampled_event cs s stream position
    ≡ censored_at (earliest (tie_breaker_of s.tie) (candidates (in_cause_order cs) s.current_age (threshold_at stream) position)) s
unfolding sampled_event
sampled_some [] s stream position h = absurd (let e : 0 < 0 = h in omega arith)
sampled_some (c ∷ cs) s stream position h = refl

-- no record, or some
pub event_is : (causes : List CompetingCause) (n : ℕ) (s : SampleSettings) (stream : List ℕ) (position : ℕ) → length causes ≡ 8
    → {best : Option Candidate}
    → best ≡ earliest (tie_breaker_of s.tie) (candidates (in_cause_order (take n causes)) s.current_age (threshold_at stream) position)
    → cond (eqb n 0) (no_event 0) (censored_at best s) ≡ sampled_event (take n causes) s stream position
unfolding sampled_event
event_is causes zero s stream position h e = refl
event_is causes (suc n) s stream position h e =
    rw (eqb-suc-zero n, e)
    (sym (sampled_some (take (suc n) causes) s stream position (omega (arith, length-take (suc n) causes))))

-- ---- refusals

first_zero : (a b : ℕ) → cond (eqb a 0) b a ≡ 0 → a ≡ 0
first_zero zero b h = refl
first_zero (suc a) b h = rw (eqb-suc-zero a) at h

chain_passes : (number d : ℕ) (a b : Bool) → cond (eqb number 0) (cond a too_many_causes (cond b invalid_state d)) number ≡ 0
    → (a ≡ false) × ((b ≡ false) × (d ≡ 0))
chain_passes zero d true b h = absurd (let e : ◌≡◌ {A = ℕ} 10 0 = h in omega arith)
chain_passes zero d false true h = absurd (let e : ◌≡◌ {A = ℕ} 1 0 = h in omega arith)
chain_passes zero d false false h = (refl, (refl, h))
chain_passes (suc number) d a b h = absurd (let e : ◌≡◌ {A = ℕ} (suc number) 0 = rw (eqb-suc-zero number) at h in omega arith)

abbrev pub fault_number : List CompetingCause → ℕ → SampleSettings → ℕ
fault_number causes n s = number_of (joined (settings_faults s) (faults_of_all (take n causes)))

module _ (causes : List CompetingCause) (n : ℕ) (s : SampleSettings) (stream : List ℕ) (position : ℕ) where
  -- more than eight records are refused whatever is drawn
  many_or_few : (b : Bool) → ltb 8 n ≡ b → {d : ℕ} → d ≡ drawn_number stream position (min n 8)
      → cond b too_many_causes d ≡ cond b too_many_causes (drawn_number stream position n)
  many_or_few true many e = refl
  many_or_few false few e =
      let m : min n 8 ≡ n = omega (arith, ltb-false 8 n few) in
      e ∙ ap (drawn_number stream position) m

  pub refusal_is : {a b f : Faults} {used d number : ℕ} → a ≡ settings_faults s → b ≡ faults_of_all (take n causes) → f ≡ joined a b
      → used ≡ min n 8 → d ≡ drawn_number stream position used
      → number ≡ cond (eqb (number_of f) 0) (cond (ltb 8 n) too_many_causes d) (number_of f)
      → number ≡ sample_refusal causes n s stream position
  unfolding sample_refusal
  refusal_is ea eb ef eu ed en =
      en ∙ rw (ef, ea, eb)
      (ap (λ (r : ℕ). cond (eqb (fault_number causes n s) 0) r (fault_number causes n s))
      (many_or_few (ltb 8 n) refl (ed ∙ ap (drawn_number stream position) eu)))

  -- the three ways of a refusal: the faults, a ninth record, the draws
  module _ {a b f : Faults} {used d : ℕ} (ea : a ≡ settings_faults s) (eb : b ≡ faults_of_all (take n causes)) (ef : f ≡ joined a b)
      (eu : used ≡ min n 8) (ed : d ≡ drawn_number stream position used)
    where
      pub faults_refuse : {number : ℕ} → (number ≡ 0 → ⊥) → number ≡ number_of f → number ≡ sample_refusal causes n s stream position
      faults_refuse h e = refusal_is ea eb ef eu ed (e ∙ rw (ne_eqb (number_of f) 0 (λ q. h (e ∙ q))))

      pub ninth_refuses : number_of f ≡ 0 → 8 < n → too_many_causes ≡ sample_refusal causes n s stream position
      ninth_refuses h g = refusal_is ea eb ef eu ed (rw (eq-eqb (number_of f) 0 h, lt-ltb 8 n g))

      pub draws_refuse : {number : ℕ} → number_of f ≡ 0 → n ≤ 8 → number ≡ d → number ≡ sample_refusal causes n s stream position
      draws_refuse h g e = refusal_is ea eb ef eu ed (e ∙ rw (eq-eqb (number_of f) 0 h, le-ltb 8 n g))

  pub passed_faults : sample_refusal causes n s stream position ≡ 0 → fault_number causes n s ≡ 0
  unfolding sample_refusal
  passed_faults h = first_zero (fault_number causes n s) _ h

  pub passed-all : sample_refusal causes n s stream position ≡ 0
      → (n ≤ 8) × ((position ≤ stream_length stream) × (draws_refusal stream position n ≡ 0))
  unfolding sample_refusal
  passed-all h =
      let p = chain_passes (fault_number causes n s) (draws_refusal stream position n) (ltb 8 n) (ltb (stream_length stream) position) h in
      (ltb-false 8 n p.0, (ltb-false (stream_length stream) position p.1.0, p.1.1))

  -- ---- the answer and the position: refused, passed

  module _ {number : ℕ} {answer : Answer} (e : number ≡ sample_refusal causes n s stream position) where
    pub sampled_refused : (number ≡ 0 → ⊥) → answer ≡ no_event number
        → record { answer = answer; position = record { next = position } } ≡ sample_next causes n s stream position
    unfolding sample_next
    sampled_refused h ea = rw (ea, ← e, ne_eqb number 0 h)

    pub sampled_passed : number ≡ 0 → answer ≡ sampled_event (take n causes) s stream position
        → record { answer = answer; position = record { next = position + n } } ≡ sample_next causes n s stream position
    unfolding sample_next
    sampled_passed h ea = rw (ea, ← e, eq-eqb number 0 h)
