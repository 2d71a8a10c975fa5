-- Change 8 of document 02, "The list's order must not matter": each of its five sentences, in their order, as a statement about
-- `sample_next` (Sampler). The time of a candidate of the sampler is its wait. An answer with number 0 is an accepted one.
use Rattle.std.specs.Prelude.{◌≡◌, Bool, true, false, not, ◌&&◌, List, [], ◌∷◌, ℕ, ◌+◌, ◌*◌, T, eqb, ltb, length, take, Float}
use Rattle.std.proofs.Math.Option.{some}
use Rattle.std.proofs.Math.ListN.{get_elem?}
use Rattle.std.specs.Float.{binary64}
use Rattle.std.specs.Float.Ieee.{add, sub, lt, le, eq, fits}
use Rattle.std.specs.Float.Ieee.Positive.{num, den}
use Rattle.hazards.specs.Lists.{all}
use Rattle.hazards.specs.Answers.{no_event, event_of}
use Rattle.hazards.specs.Draws.{threshold_at}
use Rattle.hazards.specs.Ties.{tie_breaker_of, preferred}
use Rattle.hazards.specs.Sampler.{in_cause_order, candidates, sample_next}
use Rattle.hazards.specs.declared.ties.Candidate.{Candidate}
use Rattle.hazards.specs.declared.sampler.CompetingCause.{CompetingCause}
use Rattle.hazards.specs.declared.sampler.SampleSettings.{SampleSettings}
use Rattle.hazards.specs.declared.sampler.Sampled.{Sampled}

-- ---- the same records in another order, with all causes different

-- the second list is the first in another order: both are empty; the first element stays and the others are in another order; the first two
-- change places; or one such step follows another
pub data Reordered {A : Type 0} : List A → List A → Type 0 where
  none : Reordered [] []
  keep : (x : A) {xs ys : List A} → Reordered xs ys → Reordered (x ∷ xs) (x ∷ ys)
  swap : (x y : A) (xs : List A) → Reordered (x ∷ y ∷ xs) (y ∷ x ∷ xs)
  follow : {xs ys zs : List A} → Reordered xs ys → Reordered ys zs → Reordered xs zs

-- no two of the records have the same cause
unfoldable pub different_causes : List CompetingCause → Bool
different_causes [] = true
different_causes (c ∷ cs) = all (λ d. not (eqb d.cause_id c.cause_id)) cs && different_causes cs

-- "For any two orders of the same sampler records with all causes different, all else the same and both accepted, the answer and the draw
-- position after it are the same." The records are the n that are used. That both are accepted is not asked for: what is refused in one
-- order is refused in the other by the same number.
abbrev pub AnyOrder : Type 0
AnyOrder = (first second : List CompetingCause) (n : ℕ) (s : SampleSettings) (stream : List ℕ) (position : ℕ)
    → Reordered (take n first) (take n second) → different_causes (take n first) ≡ true
    → sample_next first n s stream position ≡ sample_next second n s stream position

-- No order is left out: with all causes different, a list of the same length in which each record stands somewhere is the list in another
-- order.
abbrev pub EveryOrder : Type 0
EveryOrder = (first second : List CompetingCause) → different_causes first ≡ true → length first ≡ length second
    → ((place : ℕ) (c : CompetingCause) → get_elem? first place ≡ some c → (other : ℕ) × (get_elem? second other ≡ some c))
    → Reordered first second

-- ---- of one sample

-- age + wait is below the censor age, in exact numbers: each of the three, finite and not below 0, is the fraction num / den
abbrev pub exactly_below : Float → Float → Float → Bool
exactly_below age wait censor = ltb ((num age * den wait + num wait * den age) * den censor) (num censor * (den age * den wait))

module _ (causes : List CompetingCause) (n : ℕ) (s : SampleSettings) (stream : List ℕ) (position : ℕ) where
  abbrev pub sampled : Sampled
  sampled = sample_next causes n s stream position

  -- the used records' candidates: by ascending cause each draws a threshold, and a finite wait for it is a candidate
  abbrev pub drawn_candidates : List Candidate
  drawn_candidates = candidates (in_cause_order (take n causes)) s.current_age (threshold_at stream) position

  abbrev pub IsCandidate : Candidate → Type 0
  IsCandidate c = (place : ℕ) × (get_elem? drawn_candidates place ≡ some c)

  -- "A censored answer leaves no candidate whose age + wait is below the censor age": there is a censor age, and neither the exact sum nor
  -- the rounded one is below it. The rounded one is compared with a value that binary64 holds, as every f64 is.
  pub record LeavesNoCandidate : Type 0 where
    pub censor_age : s.has_censor ≡ 1
    pub exact-sum : (c : Candidate) → IsCandidate c → exactly_below s.current_age c.time s.censor_age ≡ false
    pub rounded-sum : T (fits binary64 s.censor_age) → (c : Candidate) → IsCandidate c
        → lt (add binary64 s.current_age c.time) s.censor_age ≡ false

  -- "An uncensored winner has no rival candidate that is earlier, or as early and preferred by the tie choice, and isn't after a censor age
  -- above the current one." It is a candidate, and its cause, wait and piece are answered. Earlier and as early are said of the waits,
  -- "isn't after" of the wait and the rounded difference of the ages: these the Rust compares. The sum of age and wait, exact or rounded,
  -- may be above the censor age by that rounding (docs/DIFFERENCES.md).
  pub record Winner (w : Candidate) : Type 0 where
    pub is_candidate : IsCandidate w
    pub answered : sampled.answer ≡ event_of w.cause_id w.time false w.piece
    pub none_earlier : (c : Candidate) → IsCandidate c → lt c.time w.time ≡ false
    pub none_preferred : (c : Candidate) → IsCandidate c → eq c.time w.time ≡ true
        → preferred (tie_breaker_of s.tie) c w ≡ false
    pub not_after_censor : s.has_censor ≡ 1 → lt s.current_age s.censor_age ≡ true
        → le w.time (sub binary64 s.censor_age s.current_age) ≡ true

  -- "there is no candidate and no such censor age", which is one above the current age
  pub record NothingAhead : Type 0 where
    pub no_candidate : drawn_candidates ≡ []
    pub no-censor : s.has_censor ≡ 1 → lt s.current_age s.censor_age ≡ false

  -- "Otherwise 'no event' is answered only when" that is so; and then it is answered
  pub record OnlyThen : Type 0 where
    pub only : sampled.answer.event ≡ false → NothingAhead
    pub then : NothingAhead → sampled.answer ≡ no_event 0

-- ---- the second sentence to the fifth, of every sample

abbrev pub CensoredAnswer : Type 0
CensoredAnswer = (causes : List CompetingCause) (n : ℕ) (s : SampleSettings) (stream : List ℕ) (position : ℕ)
    → (sampled causes n s stream position).answer.censored ≡ true → LeavesNoCandidate causes n s stream position

abbrev pub UncensoredWinner : Type 0
UncensoredWinner = (causes : List CompetingCause) (n : ℕ) (s : SampleSettings) (stream : List ℕ) (position : ℕ)
    → (sampled causes n s stream position).answer.event ≡ true → (sampled causes n s stream position).answer.censored ≡ false
    → (w : Candidate) × Winner causes n s stream position w

-- "An empty list answers no event", even with a censor age
abbrev pub EmptyList : Type 0
EmptyList = (causes : List CompetingCause) (n : ℕ) (s : SampleSettings) (stream : List ℕ) (position : ℕ) → take n causes ≡ []
    → (sampled causes n s stream position).answer.number ≡ 0 → (sampled causes n s stream position).answer ≡ no_event 0

abbrev pub NoEvent : Type 0
NoEvent = (causes : List CompetingCause) (n : ℕ) (s : SampleSettings) (stream : List ℕ) (position : ℕ) → (take n causes ≡ [] → ⊥)
    → (sampled causes n s stream position).answer.number ≡ 0
    → OnlyThen causes n s stream position
