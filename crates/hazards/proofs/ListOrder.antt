-- The five statements of change 8 of document 02.
use mathlib.Core.Path.{◌≡◌, refl, sym, ◌∙◌, ap}
use mathlib.Core.Logic.{inl, inr}
use mathlib.Core.Bool.{Bool, true, false, cond, ◌&&◌, true≢false}
use mathlib.Core.List.{List, [], ◌∷◌}
use Prim.Native.Nat.{ℕ, suc, ◌^◌, ◌<◌}
use native.Mathlib.Omega.{arith}
use borrow.Author.Tests.{eqb-true, eq-eqb, le-ltb}
use lib.Dec.{T, eqb}
use lib.ListN.{length, take}
use lib.Ieee.{Float, binary64, sub, lt, fits}
use lib.Ieee.Fits.{and_l, and_r}
use Rattle.std.specs.Prelude.{Option, Some, None}
use Rattle.hazards.specs.Floats.{not_below_zero, is_time, is_finite_wait}
use Rattle.hazards.specs.Lists.{foldl}
use Rattle.hazards.specs.Refusals.{no_cause}
use Rattle.hazards.specs.Answers.{no_event, event_of}
use Rattle.hazards.specs.Checks.{hazard_of, intervals_of}
use Rattle.hazards.specs.Rates.{invert_cumulative_hazard}
use Rattle.hazards.specs.Draws.{threshold_at}
use Rattle.hazards.specs.Ties.{candidate_after, tie_breaker_of, precedes, earliest}
use Rattle.hazards.specs.Sampler.{sample_refusal, in_cause_order, candidates, censored_at, sampled_event}
use Rattle.hazards.specs.Sampler.{sample_next}
use Rattle.hazards.specs.ListOrder.{Reordered, different_causes, AnyOrder, CensoredAnswer, UncensoredWinner, EmptyList, NoEvent}
use Rattle.hazards.specs.ListOrder.{sampled, drawn_candidates, IsCandidate, LeavesNoCandidate, Winner, OnlyThen}
use Rattle.hazards.specs.declared.answers.Answer.{Answer}
use Rattle.hazards.specs.declared.rates.Wait.{Wait}
use Rattle.hazards.specs.declared.ties.Candidate.{Candidate}
use Rattle.hazards.specs.declared.sampler.CompetingCause.{CompetingCause}
use Rattle.hazards.specs.declared.sampler.SampleSettings.{SampleSettings}
use Rattle.hazards.proofs.Bounds.{Upto}
use Rattle.hazards.proofs.Signs.{Held}
use Rattle.hazards.proofs.Cases.{by_test, both_true}
use Rattle.hazards.proofs.Members.{Member, at_place, of_place, member_joined}
use Rattle.hazards.proofs.WaitBounds.{invert_held}
use Rattle.hazards.proofs.FiniteOrder.{not-lt-trans}
use Rattle.hazards.proofs.Limits.{time_upto}
use Rattle.hazards.proofs.PublicBounds.{ages_accepted}
use Rattle.hazards.proofs.SamplerLaws.{passed_faults, sampled_some}
use Rattle.hazards.proofs.Censoring.{span_finite, within_difference, past_exactly, past_rounded}
use Rattle.hazards.proofs.Winners.{BestOf, Best, not_preceding, earliest_best}
use Rattle.hazards.proofs.Reorderings.{faults_reordered, length-reordered, sorted_alike}

-- ---- the answer and the position do not depend on the order

module _ (s : SampleSettings) (stream : List ℕ) (position : ℕ) where
  event_reordered : (xs ys : List CompetingCause) → Reordered xs ys → different_causes xs ≡ true
      → sampled_event xs s stream position ≡ sampled_event ys s stream position
  unfolding sampled_event
  event_reordered [] [] r d = refl
  event_reordered [] (y ∷ ys) r d = absurd (let e : ◌≡◌ {A = ℕ} 0 (suc (length ys)) = length-reordered r in omega arith)
  event_reordered (x ∷ xs) [] r d = absurd (let e : ◌≡◌ {A = ℕ} (suc (length xs)) 0 = length-reordered r in omega arith)
  event_reordered (x ∷ xs) (y ∷ ys) r d =
      ap
      (λ (cs : List CompetingCause).
      censored_at (earliest (tie_breaker_of s.tie) (candidates cs s.current_age (threshold_at stream) position)) s)
      (sorted_alike r d)

  refusal_reordered : (first second : List CompetingCause) (n : ℕ) → Reordered (take n first) (take n second)
      → sample_refusal first n s stream position ≡ sample_refusal second n s stream position
  unfolding sample_refusal
  refusal_reordered first second n r = rw (faults_reordered r)

pub any_order : AnyOrder
unfolding sample_next
any_order first second n s stream position r d =
    rw (refusal_reordered s stream position first second n r, event_reordered s stream position (take n first) (take n second) r d)

-- ---- candidates: each at a finite time, which binary64 holds

record Drawn (c : Candidate) : Type 0 where
  finite : T (is_finite_wait c.time)
  held : T (fits binary64 c.time)

after_drawn : (cause priority : ℕ) (wait : Option Wait) → Held wait → (c : Candidate) → Member c (candidate_after cause priority (λ t. t) wait)
    → Drawn c
unfolding candidate_after
after_drawn cause priority None h c p = absurd p
after_drawn cause priority (Some wait) h c p =
    by_test (is_finite_wait wait.time)
    (λ (e : is_finite_wait wait.time ≡ true). elim (rw e at p) [ inl q ↦ rw q (record { finite = rw e tt; held = h }) | inr q ↦ absurd q ])
    (λ (e : is_finite_wait wait.time ≡ false). absurd (rw e at p))

candidates_drawn : (cs : List CompetingCause) (age : Float) (threshold : ℕ → Float) (k : ℕ) (c : Candidate)
    → Member c (candidates cs age threshold k) → Drawn c
unfolding candidates
candidates_drawn [] age threshold k c p = absurd p
candidates_drawn (r ∷ rs) age threshold k c p =
    let h = r.hazard in
    let wait = invert_cumulative_hazard (hazard_of h) (intervals_of h) age (threshold k) in
    let first = candidate_after r.cause_id r.priority (λ t. t) wait in
    elim (member_joined c first (candidates rs age threshold (suc k)) p) [
      | inl q ↦ after_drawn r.cause_id r.priority wait (invert_held (hazard_of h) (intervals_of h) age (threshold k)) c q
      | inr q ↦ candidates_drawn rs age threshold (suc k) c q
    ]

-- ---- what an answer tells of the earliest candidate

-- two tests of which one holds
one_holds : (a b : Bool) → (a && b) ≡ false → a ≡ true → b ≡ false
one_holds true b h e = h
one_holds false b h e = absurd (true≢false (sym e))

-- which of two answers it is, by a flag that the other does not have so
module _ (flag : Answer → Bool) (test : Bool) (x y : Answer) {v : Bool} where
  first-of : flag (cond test x y) ≡ v → (flag y ≡ v → ⊥) → test ≡ true
  first-of h other = by_test test (λ p. p) (λ p. absurd (other (rw p at h)))

  second_of : flag (cond test x y) ≡ v → (flag x ≡ v → ⊥) → test ≡ false
  second_of h other = by_test test (λ p. absurd (other (rw p at h))) (λ p. p)

abbrev is_event : Answer → Bool
is_event a = a.event

abbrev is_censored : Answer → Bool
is_censored a = a.censored

module _ (s : SampleSettings) where
  abbrev given : Bool
  given = eqb s.has_censor 1

  -- there is a censor age above the current one
  abbrev ahead : Bool
  ahead = given && lt s.current_age s.censor_age

  abbrev difference : Float
  difference = sub binary64 s.censor_age s.current_age

  abbrev span : Float
  span = not_below_zero difference

  -- an event is after the censor age, as the sampler has it
  abbrev after : Candidate → Bool
  after w = given && lt span w.time

  abbrev at_censor : Float → Answer
  at_censor delta = event_of no_cause delta true 0

  abbrev won : Candidate → Answer
  won w = event_of w.cause_id w.time false w.piece

  -- longer than the span to the censor age
  abbrev Longer : Option Candidate → Type 0
  Longer None = Unit {0}
  Longer (Some w) = lt span w.time ≡ true

  -- ---- a censored answer: without a candidate, with one

  censored_none : is_censored (censored_at None s) ≡ true → s.has_censor ≡ 1
  unfolding censored_at
  censored_none h =
      let both = both_true given _ (first-of is_censored ahead (at_censor difference) (no_event 0) h (λ e. true≢false (sym e))) in
      eqb-true s.has_censor 1 both.0

  censored_found : (w : Candidate) → is_censored (censored_at (Some w) s) ≡ true → (s.has_censor ≡ 1) × (lt span w.time ≡ true)
  unfolding censored_at
  censored_found w h =
      let both = both_true given _ (first-of is_censored (after w) (at_censor span) (won w) h (λ e. true≢false (sym e))) in
      (eqb-true s.has_censor 1 both.0, both.1)

  censored_tells : (e : Option Candidate) → is_censored (censored_at e s) ≡ true → (s.has_censor ≡ 1) × Longer e
  censored_tells None h = (censored_none h, tt)
  censored_tells (Some w) h = censored_found w h

  -- ---- an uncensored event is that of the earliest candidate, which is not longer than the span

  record Wins (e : Option Candidate) : Type 0 where
    winner : Candidate
    found : e ≡ Some winner
    answers : censored_at e s ≡ won winner
    within : s.has_censor ≡ 1 → lt span winner.time ≡ false

  event_none : is_event (censored_at None s) ≡ true → is_censored (censored_at None s) ≡ false → ⊥
  unfolding censored_at
  event_none h k =
      let no = second_of is_censored ahead (at_censor difference) (no_event 0) k true≢false in
      true≢false (sym (first-of is_event ahead (at_censor difference) (no_event 0) h (λ e. true≢false (sym e))) ∙ no)

  event_found : (w : Candidate) → is_censored (censored_at (Some w) s) ≡ false → Wins (Some w)
  unfolding censored_at
  event_found w k =
      let no = second_of is_censored (after w) (at_censor span) (won w) k true≢false in
      record {
        winner = w;
        found = refl;
        answers = rw no;
        within = λ e. one_holds given (lt span w.time) no (eq-eqb s.has_censor 1 e);
      }

  event_tells : (e : Option Candidate) → is_event (censored_at e s) ≡ true → is_censored (censored_at e s) ≡ false → Wins e
  event_tells None h k = absurd (event_none h k)
  event_tells (Some w) h k = event_found w k

  -- ---- no event is answered for no candidate and no censor age above the current one

  nothing_none : is_event (censored_at None s) ≡ false → s.has_censor ≡ 1 → lt s.current_age s.censor_age ≡ false
  unfolding censored_at
  nothing_none h e =
      let no = second_of is_event ahead (at_censor difference) (no_event 0) h true≢false in
      one_holds given (lt s.current_age s.censor_age) no (eq-eqb s.has_censor 1 e)

  nothing_found : (w : Candidate) → is_event (censored_at (Some w) s) ≡ false → ⊥
  unfolding censored_at
  nothing_found w h =
      let no = second_of is_event (after w) (at_censor span) (won w) h true≢false in
      true≢false (sym (first-of is_event (after w) (at_censor span) (won w) h true≢false) ∙ no)

  nothing_tells : (e : Option Candidate) → is_event (censored_at e s) ≡ false
      → (e ≡ None) × (s.has_censor ≡ 1 → lt s.current_age s.censor_age ≡ false)
  nothing_tells None h = (refl, nothing_none h)
  nothing_tells (Some w) h = absurd (nothing_found w h)

  not_ahead : (s.has_censor ≡ 1 → lt s.current_age s.censor_age ≡ false) → ahead ≡ false
  not_ahead h = by_test given (λ p. rw (p, h (eqb-true s.has_censor 1 p))) (λ p. rw p)

  told_nothing : (s.has_censor ≡ 1 → lt s.current_age s.censor_age ≡ false) → censored_at None s ≡ no_event 0
  unfolding censored_at
  told_nothing h = ap (λ (b : Bool). cond b (at_censor difference) (no_event 0)) (not_ahead h)

-- ---- of one sample

no_member : {A : Type 0} (l : List A) → ((x : A) → Member x l → ⊥) → l ≡ []
no_member [] h = refl
no_member (x ∷ xs) h = absurd (h x (inl refl))

not_empty : {A : Type 0} (l : List A) → (l ≡ [] → ⊥) → 0 < length l
not_empty [] h = absurd (h refl)
not_empty (x ∷ xs) h = omega arith

-- a flag that no answer without an event has set
module _ (flag : Answer → Bool) (clear : (number : ℕ) → flag (no_event number) ≡ false) where
  flag_some : (cs : List CompetingCause) (s : SampleSettings) (stream : List ℕ) (position : ℕ)
      → flag (sampled_event cs s stream position) ≡ true → 0 < length cs
  unfolding sampled_event
  flag_some [] s stream position h = absurd (true≢false (sym h ∙ clear 0))
  flag_some (c ∷ cs) s stream position h = omega arith

module _ (causes : List CompetingCause) (n : ℕ) (s : SampleSettings) (stream : List ℕ) (position : ℕ) where
  abbrev answer : Answer
  answer = (sampled causes n s stream position).answer

  abbrev best : Option Candidate
  best = earliest (tie_breaker_of s.tie) (drawn_candidates causes n s stream position)

  refusal_zero : answer.number ≡ 0 → sample_refusal causes n s stream position ≡ 0
  unfolding sample_next
  refusal_zero h =
      let number = sample_refusal causes n s stream position in
      by_test (eqb number 0) (λ p. eqb-true number 0 p) (λ p. rw (p, answer, sampled) at h)

  answer_event : sample_refusal causes n s stream position ≡ 0 → answer ≡ sampled_event (take n causes) s stream position
  unfolding sample_next
  answer_event h = rw (eq-eqb (sample_refusal causes n s stream position) 0 h, answer, sampled)

  answer_some : sample_refusal causes n s stream position ≡ 0 → 0 < length (take n causes) → answer ≡ censored_at best s
  answer_some h some = answer_event h ∙ sampled_some (take n causes) s stream position some

  -- with such a flag it is accepted, and answered by the earliest candidate and the censor age
  module _ (flag : Answer → Bool) (clear : (number : ℕ) → flag (no_event number) ≡ false) (h : flag answer ≡ true) where
    flag_accepted : sample_refusal causes n s stream position ≡ 0
    unfolding sample_next
    flag_accepted =
        let number = sample_refusal causes n s stream position in
        by_test (eqb number 0) (λ p. eqb-true number 0 p) (λ p. absurd (true≢false (sym (rw (p, answer, sampled) at h) ∙ clear number)))

    flag_answered : answer ≡ censored_at best s
    flag_answered =
        answer_some flag_accepted
        (flag_some flag clear (take n causes) s stream position (sym (ap flag (answer_event flag_accepted)) ∙ h))

  -- accepted ages
  module _ (h : sample_refusal causes n s stream position ≡ 0) where
    times : T (is_time s.current_age && is_time s.censor_age)
    times = ages_accepted causes n s (passed_faults causes n s stream position h)

    age_upto : Upto (2 ^ 40) s.current_age
    age_upto = time_upto s.current_age (and_l (is_time s.current_age) (is_time s.censor_age) times)

    censor_upto : Upto (2 ^ 40) s.censor_age
    censor_upto = time_upto s.censor_age (and_r (is_time s.current_age) (is_time s.censor_age) times)

  all-drawn : (c : Candidate) → Member c (drawn_candidates causes n s stream position) → Drawn c
  all-drawn = candidates_drawn (in_cause_order (take n causes)) s.current_age (threshold_at stream) position

  best_drawn : BestOf (tie_breaker_of s.tie) best (λ c. Member c (drawn_candidates causes n s stream position))
  best_drawn = earliest_best (tie_breaker_of s.tie) (drawn_candidates causes n s stream position) (λ c p. (all-drawn c p).finite)

  member : (c : Candidate) → IsCandidate causes n s stream position c → Member c (drawn_candidates causes n s stream position)
  member c p = of_place c (drawn_candidates causes n s stream position) p.0 p.1

  -- ---- a censored answer

  -- where the earliest is longer than the span, so is every candidate
  all-longer : T (is_finite_wait (span s)) → (e : Option Candidate)
      → BestOf (tie_breaker_of s.tie) e (λ c. Member c (drawn_candidates causes n s stream position)) → Longer s e
      → (c : Candidate) → Member c (drawn_candidates causes n s stream position) → lt (span s) c.time ≡ true
  all-longer f None b l c p = absurd (b c p)
  all-longer f (Some w) b l c p =
      let cf = (all-drawn c p).finite in
      let wf = (all-drawn w b.seen).finite in
      let rival = (not_preceding (tie_breaker_of s.tie) c w cf wf (b.unpreceded c p)).0 in
      by_test (lt (span s) c.time) (λ q. q)
      (λ q. absurd (true≢false (sym l ∙ not-lt-trans (span s) c.time w.time f cf wf q rival)))

  leaves_none : answer.censored ≡ true → LeavesNoCandidate causes n s stream position
  leaves_none h =
      let accepted = flag_accepted is_censored (λ number. refl) h in
      let answered = flag_answered is_censored (λ number. refl) h in
      let tells = censored_tells s best (sym (ap is_censored answered) ∙ h) in
      let u = age_upto accepted in
      let v = censor_upto accepted in
      let longer = all-longer (span_finite s.current_age s.censor_age u v) best best_drawn tells.1 in
      record {
        censor_age = tells.0;
        exact-sum = λ c p.
            let d = all-drawn c (member c p) in
            le-ltb _ _ (past_exactly s.current_age s.censor_age u v c.time d.finite d.held (longer c (member c p)));
        rounded-sum = λ held c p.
            let d = all-drawn c (member c p) in
            past_rounded s.current_age s.censor_age u v c.time d.finite d.held held (longer c (member c p));
      }

  -- ---- an uncensored winner

  module _ (accepted : sample_refusal causes n s stream position ≡ 0) (w : Candidate) (found : best ≡ Some w) where
    found_best : Best (tie_breaker_of s.tie) (λ c. Member c (drawn_candidates causes n s stream position)) w
    found_best = rw found at best_drawn

    rival : (c : Candidate) → IsCandidate causes n s stream position c → precedes (tie_breaker_of s.tie) c w ≡ false
    rival c p = found_best.unpreceded c (member c p)

    candidate_finite : (c : Candidate) → IsCandidate causes n s stream position c → T (is_finite_wait c.time)
    candidate_finite c p = (all-drawn c (member c p)).finite

    found_finite : T (is_finite_wait w.time)
    found_finite = (all-drawn w found_best.seen).finite

    found_wins : answer ≡ event_of w.cause_id w.time false w.piece → (s.has_censor ≡ 1 → lt (span s) w.time ≡ false)
        → Winner causes n s stream position w
    found_wins answers within = record {
      is_candidate = at_place w (drawn_candidates causes n s stream position) found_best.seen;
      answered = answers;
      none_earlier = λ c p. (not_preceding (tie_breaker_of s.tie) c w (candidate_finite c p) found_finite (rival c p)).0;
      none_preferred = λ c p. (not_preceding (tie_breaker_of s.tie) c w (candidate_finite c p) found_finite (rival c p)).1;
      not_after_censor = λ given later.
          within_difference s.current_age s.censor_age (age_upto accepted) (censor_upto accepted) later w.time found_finite
          (within given);
    }

  wins : answer.event ≡ true → answer.censored ≡ false → (w : Candidate) × Winner causes n s stream position w
  wins h k =
      let accepted = flag_accepted is_event (λ number. refl) h in
      let answered = flag_answered is_event (λ number. refl) h in
      let tells = event_tells s best (sym (ap is_event answered) ∙ h) (sym (ap is_censored answered) ∙ k) in
      (tells.winner, found_wins accepted tells.winner tells.found (answered ∙ tells.answers) tells.within)

  -- ---- no event

  none_found : best ≡ None → drawn_candidates causes n s stream position ≡ []
  none_found e = no_member (drawn_candidates causes n s stream position) (rw e at best_drawn)

  none_best : drawn_candidates causes n s stream position ≡ [] → best ≡ None
  unfolding earliest foldl
  none_best e = rw e

  only_then : (take n causes ≡ [] → ⊥) → answer.number ≡ 0 → OnlyThen causes n s stream position
  only_then some h =
      let answered = answer_some (refusal_zero h) (not_empty (take n causes) some) in
      record {
        only = λ none.
            let tells = nothing_tells s best (sym (ap is_event answered) ∙ none) in
            record { no_candidate = none_found tells.0; no-censor = tells.1 };
        then = λ nothing.
            answered
            ∙ ap (λ (e : Option Candidate). censored_at e s) (none_best nothing.no_candidate)
            ∙ told_nothing s nothing.no-censor;
      }

pub censored_answer : CensoredAnswer
censored_answer causes n s stream position = leaves_none causes n s stream position

pub uncensored_winner : UncensoredWinner
uncensored_winner causes n s stream position = wins causes n s stream position

pub empty_list : EmptyList
unfolding sampled_event
empty_list causes n s stream position none h =
    answer_event causes n s stream position (refusal_zero causes n s stream position h)
    ∙ ap (λ (cs : List CompetingCause). sampled_event cs s stream position) none

pub no-event : NoEvent
no-event causes n s stream position = only_then causes n s stream position
