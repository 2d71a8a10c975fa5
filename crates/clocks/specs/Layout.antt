-- A clock in lent memory: ten rows of eight words and twenty-five of eight floats, what they are read as, and which of them are coded as
-- a clock's. Any other word or float is read as something too, so that every definition is total; refusal 1 sees it (coded_clock).
--
--   words 0: present, process, has entity, entity's index, its generation, policy, tie choice, channels used
--   words 1: scheduled event present, its index, winner present, its cause, active, winner's piece; two spare
--   words 2 + j, of channel j: cause, priority, kind, pairs; four spare
--   floats 0: scale, winner's time, last update; five spare
--   floats 1 + 3 j, of channel j: accumulated hazard, threshold, interval start, the hazard's own rate; four spare
--   floats 2 + 3 j and 3 + 3 j, of channel j: ends and rates of its pairs
use Rattle.std.specs.Prelude.{◌≡◌, Bool, true, not, ◌&&◌, ◌||◌, List, [], ◌∷◌, ℕ, zero, suc, ◌+◌, ◌*◌, ◌%◌, ◌<◌, eqb, ltb, Float, length, get_or}
use Rattle.std.specs.Float.{nan}
use Rattle.hazards.specs.Floats.{zero_bits}
use Rattle.hazards.specs.Rates.{kinds, rate_of_kind}
use Rattle.hazards.specs.Ties.{tie_breaker_of}
use Rattle.clocks.specs.Clocks.{SurvivalClock, policy_of}
use Rattle.clocks.specs.declared.channels.HazardChannelState.{HazardChannelState}
use Rattle.clocks.specs.declared.clocks.ScheduledEvent.{ScheduledEvent}
use Rattle.clocks.specs.declared.clocks.Winner.{Winner}

abbrev pub WordRows : Type 0
WordRows = List (List ℕ)

abbrev pub FloatRows : Type 0
FloatRows = List (List Float)

-- f 0, .., f (n - 1)
unfoldable pub table : {A : Type 0} → ℕ → (ℕ → A) → List A
table zero f = []
table (suc n) f = f 0 ∷ table n (λ i. f (suc i))

-- a test of every place below n
unfoldable pub every_below : ℕ → (ℕ → Bool) → Bool
every_below zero test = true
every_below (suc n) test = every_below n test && test n

-- ---- what words are read as

abbrev pub flag_from : ℕ → Bool
flag_from w = eqb w 1

abbrev pub u32_from : ℕ → ℕ
u32_from w = w % 4294967296

abbrev pub byte_from : ℕ → ℕ
byte_from w = w % 256

-- a channel, from its row of words and its three rows of floats
unfoldable pub channel_from : List ℕ → List Float → List Float → List Float → HazardChannelState
channel_from ws ns ends rates = record {
  cause_id = u32_from (get_or ws 0 0);
  priority = u32_from (get_or ws 1 0);
  hazard = rate_of_kind (byte_from (get_or ws 2 0)) (get_or ns 3 nan);
  intervals = record { ends = ends; rates = rates; count = get_or ws 3 0 };
  accumulated_hazard = get_or ns 0 nan;
  target_threshold = get_or ns 1 nan;
  interval_start_time = get_or ns 2 nan;
}

-- channel j of a clock's rows
abbrev pub channel_at : WordRows → FloatRows → ℕ → HazardChannelState
channel_at w f j = channel_from (get_or w (2 + j) []) (get_or f (1 + 3 * j) []) (get_or f (2 + 3 * j) []) (get_or f (3 + 3 * j) [])

abbrev pub channels_from : WordRows → FloatRows → List HazardChannelState
channels_from w f = table 8 (λ j. channel_at w f j)

-- the event and the winner in the row of a schedule; the winner's time is a float beside it
abbrev pub event_in : List ℕ → ScheduledEvent
event_in b = record { present = flag_from (get_or b 0 0); index = get_or b 1 0 }

abbrev pub winner_in : List ℕ → Float → Winner
winner_in b time = record {
  present = flag_from (get_or b 2 0);
  cause_id = u32_from (get_or b 3 0);
  time = time;
  piece = byte_from (get_or b 5 0);
}

-- a clock, from its settings, its schedule, its times and its channels
unfoldable pub clock_of : List ℕ → List ℕ → List Float → List HazardChannelState → SurvivalClock
clock_of a b ts channels = record {
  process_id = get_or a 1 0;
  has_entity = flag_from (get_or a 2 0);
  entity = record { index = get_or a 3 0; generation = u32_from (get_or a 4 0) };
  policy = policy_of (byte_from (get_or a 5 0));
  tie_breaker = tie_breaker_of (byte_from (get_or a 6 0));
  tick_scale = get_or ts 0 nan;
  channels = channels;
  channel_count = get_or a 7 0;
  scheduled_event_id = event_in b;
  current_winner = winner_in b (get_or ts 1 nan);
  is_active = flag_from (get_or b 4 0);
  last_update_time = get_or ts 2 nan;
}

unfoldable pub clock_from : WordRows → FloatRows → SurvivalClock
clock_from w f = clock_of (get_or w 0 []) (get_or w 1 []) (get_or f 0 []) (channels_from w f)

-- whether the place is taken; what is read as a clock is one then
abbrev pub present_in : WordRows → Bool
present_in w = flag_from (get_or (get_or w 0 []) 0 0)

-- ---- which words and floats are coded as these say: flags, numbers of kinds and choices, u32s, bytes, and zero in every spare place

abbrev pub is_flag : ℕ → Bool
is_flag w = ltb w 2

abbrev pub is_u32 : ℕ → Bool
is_u32 w = ltb w 4294967296

abbrev pub is_byte : ℕ → Bool
is_byte w = ltb w 256

unfoldable pub coded_settings : List ℕ → Bool
coded_settings a =
    is_flag (get_or a 0 0)
    && (is_flag (get_or a 2 0) && (is_u32 (get_or a 4 0) && (ltb (get_or a 5 0) 2 && ltb (get_or a 6 0) 3)))

unfoldable pub coded_schedule : List ℕ → Bool
coded_schedule b =
    is_flag (get_or b 0 0)
    && (is_flag (get_or b 2 0)
    && (is_u32 (get_or b 3 0)
    && (is_flag (get_or b 4 0) && (is_byte (get_or b 5 0) && (eqb (get_or b 6 0) 0 && eqb (get_or b 7 0) 0)))))

-- +0.0 in the last four places
abbrev pub spare_zero : List Float → Bool
spare_zero ns =
    zero_bits (get_or ns 4 nan) && (zero_bits (get_or ns 5 nan) && (zero_bits (get_or ns 6 nan) && zero_bits (get_or ns 7 nan)))

unfoldable pub coded_times : List Float → Bool
coded_times ts = zero_bits (get_or ts 3 nan) && spare_zero ts

unfoldable pub coded_words : List ℕ → Bool
coded_words ws =
    is_u32 (get_or ws 0 0)
    && (is_u32 (get_or ws 1 0)
    && (ltb (get_or ws 2 0) kinds
    && (eqb (get_or ws 4 0) 0 && (eqb (get_or ws 5 0) 0 && (eqb (get_or ws 6 0) 0 && eqb (get_or ws 7 0) 0)))))

-- a hazard of kind 0 has no rate of its own: +0.0 stands there
unfoldable pub coded_numbers : ℕ → List Float → Bool
coded_numbers kind ns = (not (eqb kind 0) || zero_bits (get_or ns 3 nan)) && spare_zero ns

abbrev pub coded_channel : List ℕ → List Float → Bool
coded_channel ws ns = coded_words ws && coded_numbers (get_or ws 2 0) ns

-- every channel, used or not
abbrev pub coded_channels : WordRows → FloatRows → Bool
coded_channels w f = every_below 8 (λ j. coded_channel (get_or w (2 + j) []) (get_or f (1 + 3 * j) []))

unfoldable pub coded_clock : WordRows → FloatRows → Bool
coded_clock w f =
    coded_settings (get_or w 0 []) && (coded_schedule (get_or w 1 []) && (coded_times (get_or f 0 []) && coded_channels w f))

-- the same as facts
pub record Coded (w : WordRows) (f : FloatRows) : Type 0 where
  pub settings : coded_settings (get_or w 0 []) ≡ true
  pub schedule : coded_schedule (get_or w 1 []) ≡ true
  pub times : coded_times (get_or f 0 []) ≡ true
  pub channels : (j : ℕ) → j < 8 → coded_channel (get_or w (2 + j) []) (get_or f (1 + 3 * j) []) ≡ true

-- ---- calls in place

-- the sizes of what is lent
pub record Sized (w : WordRows) (f : FloatRows) : Type 0 where
  pub words : length w ≡ 10
  pub floats : length f ≡ 25

-- what a call leaves of the rows w and f: the clock k, at a place that is taken or not as before, in coded rows where they were coded
pub record Leaves (w : WordRows) (f : FloatRows) (w' : WordRows) (f' : FloatRows) (k : SurvivalClock) : Type 0 where
  pub clock : clock_from w' f' ≡ k
  pub present : present_in w' ≡ present_in w
  pub coded : Coded w f → Coded w' f'
