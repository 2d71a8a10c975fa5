-- Document 01, "Run call and sampler": sample_next of competing_risks.rs over eight records, of which the first n are used, with
-- its own position in the recorded threshold stream.
use Rattle.std.specs.Prelude.{true, false, not, cond, ◌&&◌, ◌||◌, List, [], ◌∷◌, ◌++◌, ℕ, zero, suc, ◌+◌, eqb, ltb, take, Float, Option, Some, None}
use Rattle.std.specs.Float.Ieee.{sub, lt}
use Rattle.std.specs.Float.{binary64}
use Rattle.hazards.specs.Floats.{not_below_zero, zero_bits, is_time}
use Rattle.hazards.specs.Lists.{sort_by}
use Rattle.hazards.specs.Refusals.{no_faults, joined, identifier_fault_if, is_reserved, no_cause, number_of, too_many_causes, invalid_state}
use Rattle.hazards.specs.Answers.{no_event, event_of}
use Rattle.hazards.specs.Checks.{hazard_faults, hazard_of, intervals_of}
use Rattle.hazards.specs.Rates.{invert_cumulative_hazard}
use Rattle.hazards.specs.Draws.{stream_length, threshold_at, draw_at}
use Rattle.hazards.specs.Ties.{candidate_after, tie_breaker_of, earliest}
use Rattle.hazards.specs.declared.refusals.Faults.{Faults}
use Rattle.hazards.specs.declared.ties.Candidate.{Candidate}
use Rattle.hazards.specs.declared.answers.Answer.{Answer}
use Rattle.hazards.specs.declared.sampler.CompetingCause.{CompetingCause}
use Rattle.hazards.specs.declared.sampler.SampleSettings.{SampleSettings}
use Rattle.hazards.specs.declared.sampler.Sampled.{Sampled}

-- ---- refusals

abbrev pub cause_faults : CompetingCause → Faults
cause_faults c = joined (hazard_faults c.hazard) (identifier_fault_if (is_reserved c.cause_id))

-- over all used records
unfoldable pub faults_of_all : List CompetingCause → Faults
faults_of_all [] = no_faults
faults_of_all (c ∷ cs) = joined (cause_faults c) (faults_of_all cs)

-- 4: tie or has-byte off its list, or an unused censor age not zero bits; 5: an age or censor age that is no time (an unused
-- censor age that passes 4 is +0.0, so it passes 5)
unfoldable pub settings_faults : SampleSettings → Faults
settings_faults s = record {
  choice =
      ltb 2 s.tie || (ltb 1 s.has_censor || (eqb s.has_censor 0 && not (zero_bits s.censor_age)));
  range = not (is_time s.current_age && is_time s.censor_age);
  intervals = false;
  identifier = false;
}

-- the number of the first of n draws that would fail, or 0
unfoldable pub draws_refusal : List ℕ → ℕ → ℕ → ℕ
draws_refusal stream position zero = 0
draws_refusal stream position (suc n) =
    let number = (draw_at stream position).number in
    cond (eqb number 0) (draws_refusal stream (suc position) n) number

-- 4 to 7 over all used records, then 10, 1, and 15 or 16
unfoldable pub sample_refusal : List CompetingCause → ℕ → SampleSettings → List ℕ → ℕ → ℕ
sample_refusal causes n s stream position =
    let number = number_of (joined (settings_faults s) (faults_of_all (take n causes))) in
    cond (eqb number 0)
    (cond (ltb 8 n) too_many_causes
    (cond (ltb (stream_length stream) position) invalid_state (draws_refusal stream position n)))
    number

-- ---- the event

-- by ascending cause, repeated causes in list order
abbrev pub in_cause_order : List CompetingCause → List CompetingCause
in_cause_order causes = sort_by (λ c. c.cause_id) causes

-- each record takes the next threshold, from a place on
unfoldable pub candidates : List CompetingCause → Float → (ℕ → Float) → ℕ → List Candidate
candidates [] age threshold place = []
candidates (c ∷ cs) age threshold place =
    let h = c.hazard in
    let wait = invert_cumulative_hazard (hazard_of h) (intervals_of h) age (threshold place) in
    candidate_after c.cause_id c.priority (λ t. t) wait ++ candidates cs age threshold (suc place)

-- No candidate: censored at a censor age above the current age, else no event. A candidate: censored where its wait is longer
-- than the span to the censor age, which counts as 0 if that age is before the current one.
unfoldable pub censored_at : Option Candidate → SampleSettings → Answer
censored_at None s =
    let span = sub binary64 s.censor_age s.current_age in
    cond (eqb s.has_censor 1 && lt s.current_age s.censor_age) (event_of no_cause span true 0) (no_event 0)
censored_at (Some c) s =
    let span = not_below_zero (sub binary64 s.censor_age s.current_age) in
    cond (eqb s.has_censor 1 && lt span c.time) (event_of no_cause span true 0)
    (event_of c.cause_id c.time false c.piece)

-- an empty list has no event, even with a censor age
unfoldable pub sampled_event : List CompetingCause → SampleSettings → List ℕ → ℕ → Answer
sampled_event [] s stream position = no_event 0
sampled_event (c ∷ cs) s stream position =
    censored_at
    (earliest (tie_breaker_of s.tie) (candidates (in_cause_order (c ∷ cs)) s.current_age (threshold_at stream) position))
    s

-- every used record draws; nothing is drawn on refusal
unfoldable pub sample_next : List CompetingCause → ℕ → SampleSettings → List ℕ → ℕ → Sampled
sample_next causes n s stream position =
    let number = sample_refusal causes n s stream position in
    cond (eqb number 0)
    (record { answer = sampled_event (take n causes) s stream position; position = record { next = position + n } })
    (record { answer = no_event number; position = record { next = position } })
