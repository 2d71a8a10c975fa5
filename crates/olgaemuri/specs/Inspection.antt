-- What a program asks of a state in lent memory: the fields of what its rows are read as. Where there is no such thing, and in rows of
-- other sizes, nothing is found and every field is zero.
use Rattle.std.specs.Prelude.{Ok, Err, ◌≡◌, ◌*◌, ◌<◌, take, drop, Bool, true, false, cond, ◌&&◌, ℕ, min, eqb, ltb, leb, pos, length, get_or, replicate}
use Rattle.std.specs.declared.result.Result.{Result}
use Rattle.hazards.specs.Floats.{z}
use Rattle.hazards.specs.Rates.{kind_number, own_rate}
use Rattle.hazards.specs.Refusals.{invalid_state, number}
use Rattle.hazards.specs.declared.refusals.Refusal.{Refusal}
use Rattle.hazards.specs.Ties.{tie_number}
use Rattle.clocks.specs.Channels.{empty_channel}
use Rattle.clocks.specs.Clocks.{SurvivalClock, policy_number}
use Rattle.clocks.specs.Layout.{WordRows, FloatRows}
use Rattle.clocks.specs.declared.channels.HazardChannelState.{HazardChannelState}
use Rattle.engine.specs.State.{empty_request, slot_at}
use Rattle.engine.specs.StateRows.{shared_from, state_from}
use Rattle.engine.specs.InPlace.{has_sizes}
use Rattle.engine.specs.declared.state.Request.{Request}
use Rattle.olgaemuri.specs.declared.inspection.Counts.{Counts}
use Rattle.olgaemuri.specs.declared.inspection.QueuedRequest.{QueuedRequest}
use Rattle.olgaemuri.specs.declared.inspection.ClockFields.{ClockFields}
use Rattle.olgaemuri.specs.declared.inspection.CauseFields.{CauseFields}

-- the words of a state
abbrev pub has_words : WordRows → Bool
has_words w = eqb (length w) 177

-- ---- the counts

abbrev pub no_counts : Counts
no_counts = record { queued = 0; requests_made = 0; draw_position = 0; applied_length = 0 }

unfoldable pub counts_of : WordRows → Counts
counts_of w =
    cond (has_words w)
    (record {
      queued = (shared_from w).queued;
      requests_made = (shared_from w).request_count;
      draw_position = (shared_from w).position;
      applied_length = (shared_from w).applied_length;
    })
    no_counts

-- the length of the applied commands, and its number
pub record Applied : Type 0 where
  pub number : ℕ
  pub bytes : ℕ

abbrev pub applied : ℕ → ℕ → Applied
applied number bytes = record { number = number; bytes = bytes }

-- as the code answers
abbrev pub applied_from : Result ℕ Refusal → Applied
applied_from (Ok bytes) = applied 0 bytes
applied_from (Err refusal) = applied (number refusal) 0

-- of a journal of n bytes; above its length it is refused by 1 (document 01, "Journal and undo")
unfoldable pub applied_of : WordRows → ℕ → Applied
applied_of w n =
    cond (has_words w && leb (shared_from w).applied_length n) (applied 0 (shared_from w).applied_length) (applied invalid_state 0)

-- ---- a queued request, in the order in which they were made

abbrev pub no_request : QueuedRequest
no_request = record { found = false; clock = 0; priority = pos 0; index = 0; ticks_low = 0; ticks_high = 0 }

abbrev pub request_fields : Request → QueuedRequest
request_fields r = record {
  found = true;
  clock = r.clock;
  priority = r.priority;
  index = r.index;
  ticks_low = r.ticks.low;
  ticks_high = r.ticks.high;
}

unfoldable pub queued_request : WordRows → ℕ → QueuedRequest
queued_request w i =
    cond (has_words w && ltb i (min (shared_from w).queued 16)) (request_fields (get_or (shared_from w).queue i empty_request)) no_request

-- ---- a clock

-- the rows of clock k, of a state's
pub record OwnRows (w : WordRows) (f : FloatRows) (k : ℕ) (own_words : WordRows) (own_floats : FloatRows) : Type 0 where
  pub sizes : has_sizes w f ≡ true
  pub within : k < 16
  pub words : own_words ≡ take 10 (drop (10 * k) w)
  pub floats : own_floats ≡ take 25 (drop (25 * k) f)

abbrev pub no_clock : ClockFields
no_clock = record {
  found = false;
  has_entity = false;
  is_active = false;
  has_event = false;
  has_winner = false;
  policy = 0;
  tie = 0;
  winner_piece = 0;
  generation = 0;
  winner_cause = 0;
  process = 0;
  entity_index = 0;
  causes = 0;
  event_index = 0;
  scale = z;
  winner_time = z;
  last_update = z;
}

-- its fields where it is present
unfoldable pub clock_where : Bool → SurvivalClock → ClockFields
clock_where present k =
    cond present
    (record {
      found = true;
      has_entity = k.has_entity;
      is_active = k.is_active;
      has_event = k.scheduled_event_id.present;
      has_winner = k.current_winner.present;
      policy = policy_number k.policy;
      tie = tie_number k.tie_breaker;
      winner_piece = k.current_winner.piece;
      generation = k.entity.generation;
      winner_cause = k.current_winner.cause_id;
      process = k.process_id;
      entity_index = k.entity.index;
      causes = k.channel_count;
      event_index = k.scheduled_event_id.index;
      scale = k.tick_scale;
      winner_time = k.current_winner.time;
      last_update = k.last_update_time;
    })
    no_clock

unfoldable pub clock_fields : WordRows → FloatRows → ℕ → ClockFields
clock_fields w f k = clock_where (has_sizes w f && (slot_at (state_from w f) k).present) (slot_at (state_from w f) k).clock

-- ---- a cause of a clock, in ascending order

abbrev pub no_cause : CauseFields
no_cause = record {
  found = false;
  kind = 0;
  cause = 0;
  priority = 0;
  pairs = 0;
  rate = z;
  accumulated = z;
  threshold = z;
  interval_start = z;
  ends = replicate 8 z;
  rates = replicate 8 z;
}

abbrev pub cause_of : HazardChannelState → CauseFields
cause_of c = record {
  found = true;
  kind = kind_number c.hazard;
  cause = c.cause_id;
  priority = c.priority;
  pairs = c.intervals.count;
  rate = own_rate c.hazard;
  accumulated = c.accumulated_hazard;
  threshold = c.target_threshold;
  interval_start = c.interval_start_time;
  ends = c.intervals.ends;
  rates = c.intervals.rates;
}

-- of a clock that is present, at a place that is used
unfoldable pub cause_in : Bool → SurvivalClock → ℕ → CauseFields
cause_in present k j =
    cond (present && ltb j (min k.channel_count 8)) (cause_of (get_or k.channels j empty_channel)) no_cause

unfoldable pub cause_fields : WordRows → FloatRows → ℕ → ℕ → CauseFields
cause_fields w f k j = cause_in (has_sizes w f && (slot_at (state_from w f) k).present) (slot_at (state_from w f) k).clock j
