-- From a time up to 2^40 on, a clock's candidates, the delta of the event that it is rescheduled to and the winner's time are finite with a
-- clear sign, whatever its channels hold. So is the delta of the event that a sound clock has dispatched.
use mathlib.Core.Path.{◌≡◌}
use mathlib.Core.Bool.{true}
use mathlib.Core.List.{List, [], ◌∷◌}
use Prim.Native.Nat.{ℕ, ◌^◌}
use lib.Dec.{lit≤}
use lib.Ieee.{Float, binary64, add, sub, le}
use Rattle.std.specs.Prelude.{Option, Some, None}
use Rattle.hazards.specs.Floats.{z, is_finite_wait}
use Rattle.hazards.specs.Lists.{foldl}
use Rattle.hazards.specs.Rates.{invert_cumulative_hazard}
use Rattle.hazards.specs.Ties.{candidate_after, precedes, earlier, earliest}
use Rattle.hazards.proofs.Bounds.{Upto, largest}
use Rattle.hazards.specs.declared.rates.Wait.{Wait}
use Rattle.hazards.specs.declared.ties.Candidate.{Candidate}
use Rattle.hazards.specs.declared.ties.TieBreaker.{TieBreaker}
use Rattle.hazards.proofs.Signs.{Held}
use Rattle.hazards.proofs.Upto.{wider, zero_upto}
use Rattle.hazards.proofs.UptoOperations.{add-upto, sub-upto}
use Rattle.hazards.proofs.UptoClamped.{clamped_difference_upto}
use Rattle.hazards.proofs.Limits.{largest_stays, time_lands, later_lands}
use Rattle.hazards.proofs.Largest.{later_upto}
use Rattle.hazards.proofs.WaitBounds.{invert_held}
use Rattle.clocks.specs.Channels.{channel_candidate}
use Rattle.clocks.specs.Clocks.{SurvivalClock, clock_candidates, earliest_event}
use Rattle.clocks.specs.Scheduling.{Censor, final_event, on_event_dispatched}
use Rattle.clocks.specs.declared.channels.HazardChannelState.{HazardChannelState}
use Rattle.clocks.proofs.Sound.{Each, none, next, SoundClock}
use Rattle.hazards.proofs.Cases.{by_test}
use Rattle.clocks.proofs.EachLaws.{each_append}

-- a candidate's time
abbrev Timed : Candidate → Type 0
Timed c = Upto largest c.time

-- that of the earliest, if there is one
abbrev TimedEarliest : Option Candidate → Type 0
TimedEarliest None = Unit {0}
TimedEarliest (Some c) = Timed c

-- ---- the earliest of timed candidates
earlier_timed : (tie : TieBreaker) (best : Option Candidate) (c : Candidate) → TimedEarliest best → Timed c → TimedEarliest (earlier tie best c)
unfolding earlier
earlier_timed tie None c b t = t
earlier_timed tie (Some best) c b t = by_test (precedes tie c best) (λ e. rw e t) (λ e. rw e b)

best_timed : (tie : TieBreaker) (best : Option Candidate) {cs : List Candidate} → TimedEarliest best → Each Timed cs
    → TimedEarliest (foldl (earlier tie) best cs)
unfolding foldl
best_timed tie best b none = b
best_timed tie best b (next {x = c} t ts) = best_timed tie (earlier tie best c) (earlier_timed tie best c b t) ts

module _ (now : Float) (u : Upto (2 ^ 40) now) where
  -- ---- candidates
  after_timed : (cause priority : ℕ) (wait : Option Wait) → Held wait → Each Timed (candidate_after cause priority (λ dt. add binary64 now dt) wait)
  unfolding candidate_after
  after_timed cause priority None h = none
  after_timed cause priority (Some wait) h =
      by_test (is_finite_wait wait.time)
      (λ (e : is_finite_wait wait.time ≡ true). rw e (next (later_upto largest wait.time u h (rw e tt) later_lands time_lands) none)) (λ e. rw e none)

  channel_timed : (c : HazardChannelState) → Each Timed (channel_candidate now c)
  unfolding channel_candidate
  channel_timed c =
      let remaining = sub binary64 c.target_threshold c.accumulated_hazard in
      by_test (le remaining z) (λ e. rw e (next (wider largest (lit≤ tt) u) none))
      (λ e.
      rw e
      (after_timed c.cause_id c.priority (invert_cumulative_hazard c.hazard c.intervals z remaining)
      (invert_held c.hazard c.intervals z remaining)))

  candidates_timed : (cs : List HazardChannelState) → Each Timed (clock_candidates now cs)
  unfolding clock_candidates
  candidates_timed [] = none
  candidates_timed (c ∷ cs) = each_append (channel_timed c) (candidates_timed cs)

  earliest_timed : (k : SurvivalClock) → TimedEarliest (earliest_event k now)
  unfolding earliest_event earliest
  earliest_timed k = best_timed k.tie_breaker None tt (candidates_timed _)

  -- ---- the event
  module _ (censor : Censor) (v : censor.present ≡ true → Upto (2 ^ 40) censor.time) where
    final_timed : (e : Option Candidate) → TimedEarliest e → Upto largest (final_event e now censor).delta_time
    unfolding final_event
    final_timed None t =
        by_test censor.present
        (λ (p : censor.present ≡ true).
        by_test (le now censor.time)
        (λ (l : le now censor.time ≡ true). rw (p, l) (sub-upto largest (v p) u (rw l tt) time_lands))
        (λ l. rw (p, l) (zero_upto largest)))
        (λ p. rw p (zero_upto largest))
    final_timed (Some c) t =
        by_test censor.present
        (λ p.
        by_test (le c.time censor.time) (λ l. rw (p, l) (clamped_difference_upto largest t u largest_stays))
        (λ l. rw (p, l) (clamped_difference_upto largest (v p) u time_lands)))
        (λ p. rw p (clamped_difference_upto largest t u largest_stays))

    pub delta_upto : (k : SurvivalClock) → Upto largest (final_event (earliest_event k now) now censor).delta_time
    delta_upto k = final_timed (earliest_event k now) (earliest_timed k)

  pub winner_upto : {delta : Float} → Upto largest delta → Upto largest (add binary64 now delta)
  winner_upto d = add-upto largest u d later_lands

-- ---- the event that is dispatched
pub dispatched_upto : (k : SurvivalClock) → SoundClock k → Upto largest (on_event_dispatched k).event.delta_time
unfolding on_event_dispatched
dispatched_upto k s =
    by_test k.current_winner.present
    (λ (p : k.current_winner.present ≡ true). rw p (clamped_difference_upto largest (s.winner p) s.last_update largest_stays))
    (λ p. rw p (zero_upto largest))
