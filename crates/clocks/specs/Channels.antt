-- Document 01, "Clocks": the channels of a survival clock (HazardChannelState of hazard_clock.rs), eight places by ascending cause, of
-- which the first count are used.
use Rattle.std.specs.Prelude.{cond, List, [], ◌∷◌, ◌++◌, map, ℕ, suc, ◌+◌, ◌-◌, eqb, ltb, take, drop, replicate, Float, Option, Some, None}
use Rattle.std.specs.Float.{binary64}
use Rattle.std.specs.Float.Ieee.{add, sub, le}
use Rattle.hazards.specs.Floats.{z, not_below_zero}
use Rattle.hazards.specs.Rates.{cumulative_hazard, invert_cumulative_hazard}
use Rattle.hazards.specs.declared.rates.HazardRate.TheVariants.{Zero}
use Rattle.hazards.specs.declared.rates.Intervals.{Intervals}
use Rattle.hazards.specs.Ties.{candidate_after}
use Rattle.hazards.specs.declared.ties.Candidate.{Candidate}
use Rattle.clocks.specs.declared.channels.HazardChannelState.{HazardChannelState}

-- what an unused place holds
abbrev pub empty_intervals : Intervals
empty_intervals = record { ends = replicate 8 z; rates = replicate 8 z; count = 0 }

abbrev pub empty_channel : HazardChannelState
empty_channel = record {
  cause_id = 0;
  priority = 0;
  hazard = Zero;
  intervals = empty_intervals;
  accumulated_hazard = z;
  target_threshold = z;
  interval_start_time = z;
}

-- a channel with another accumulated hazard and interval start
abbrev pub with_accumulated : HazardChannelState → Float → Float → HazardChannelState
with_accumulated c accumulated start = record {
  cause_id = c.cause_id;
  priority = c.priority;
  hazard = c.hazard;
  intervals = c.intervals;
  accumulated_hazard = accumulated;
  target_threshold = c.target_threshold;
  interval_start_time = start;
}

-- the hazard of the time since the interval's start, at least 0, added to what was accumulated before
unfoldable pub settled_hazard : HazardChannelState → Float → Float
settled_hazard c now =
    let elapsed = not_below_zero (sub binary64 now c.interval_start_time) in
    add binary64 c.accumulated_hazard (cumulative_hazard c.hazard c.intervals elapsed)

-- settling a channel: its elapsed hazard is accumulated, and a new interval starts
abbrev pub settled : Float → HazardChannelState → HazardChannelState
settled now c = with_accumulated c (settled_hazard c now) now

-- a new interval starts, and nothing is accumulated
abbrev pub restarted : Float → HazardChannelState → HazardChannelState
restarted now c = with_accumulated c c.accumulated_hazard now

-- f on each used channel
unfoldable pub on_used : (HazardChannelState → HazardChannelState) → ℕ → List HazardChannelState → List HazardChannelState
on_used f count cs = map f (take count cs) ++ drop count cs

-- ---- by cause

-- a place among channels, counted with n more before them
abbrev pub further : ℕ → Option ℕ → Option ℕ
further n (Some at) = Some (n + at)
further n None = None

-- the place of the channel with a cause, if any (should several have it, of the first)
unfoldable pub place_of_cause : ℕ → List HazardChannelState → Option ℕ
place_of_cause cause [] = None
place_of_cause cause (c ∷ cs) = cond (eqb c.cause_id cause) (Some 0) (further 1 (place_of_cause cause cs))

-- the place of a new cause: before the first channel with a higher one, or after them all
unfoldable pub place_for_new : ℕ → List HazardChannelState → ℕ
place_for_new cause [] = 0
place_for_new cause (c ∷ cs) = cond (ltb cause c.cause_id) 0 (suc (place_for_new cause cs))

-- the eight places with a channel put in at a place, those from there on one further
unfoldable pub insert_at : ℕ → HazardChannelState → List HazardChannelState → List HazardChannelState
insert_at at c cs = take at cs ++ (c ∷ take (7 - at) (drop at cs))

-- the eight places without the one at a place, those after it one nearer
unfoldable pub remove_at : ℕ → List HazardChannelState → List HazardChannelState
remove_at at cs = take at cs ++ (drop (at + 1) cs ++ (empty_channel ∷ []))

-- ---- candidates of compute_earliest_event

abbrev pub candidate_at : HazardChannelState → Float → Candidate
candidate_at c time = record { cause_id = c.cause_id; priority = c.priority; time = time; piece = 0 }

-- a channel whose threshold is reached is a candidate now, in piece 0 wherever its age lies; any other after its wait, if that is finite
unfoldable pub channel_candidate : Float → HazardChannelState → List Candidate
channel_candidate now c =
    let remaining = sub binary64 c.target_threshold c.accumulated_hazard in
    cond (le remaining z) (candidate_at c now ∷ [])
    (candidate_after c.cause_id c.priority (λ wait. add binary64 now wait)
    (invert_cumulative_hazard c.hazard c.intervals z remaining))
