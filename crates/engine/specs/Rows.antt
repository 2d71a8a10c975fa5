-- Document 01, "Rows of the table to prove": the single table of twelve rows, in its order and words. Rows 1 to 8 are of the definitions of
-- hazards and clocks; rows 9 to 12 give command bytes to a newly opened engine, by the definition that the contract of `execute` cites.
use Rattle.std.specs.Prelude.{◌≡◌, false, List, [], ◌∷◌, ◌++◌, map, ℕ, pos, negsuc, get_or, replicate, Float, None}
use Rattle.std.specs.Float.{fin, binary64}
use Rattle.std.specs.Float.Ieee.{of_bits, to_bits}
use Rattle.hazards.specs.Floats.{z}
use Rattle.hazards.specs.Fields.{bytes_of}
use Rattle.hazards.specs.Answers.{event_of, answer_bytes}
use Rattle.hazards.specs.Rates.{hazard_at, cumulative_hazard, invert_cumulative_hazard, some_wait}
use Rattle.hazards.specs.Sampler.{sample_next}
use Rattle.hazards.specs.declared.answers.Answer.{Answer}
use Rattle.hazards.specs.declared.rates.HazardRate.{HazardRate}
use Rattle.hazards.specs.declared.rates.HazardRate.TheVariants.{Zero, Constant, Piecewise}
use Rattle.hazards.specs.declared.rates.Intervals.{Intervals}
use Rattle.hazards.specs.declared.sampler.CompetingCause.{CompetingCause}
use Rattle.hazards.specs.declared.sampler.SampleSettings.{SampleSettings}
use Rattle.hazards.specs.declared.sampler.Sampled.{Sampled}
use Rattle.clocks.specs.Channels.{empty_intervals, empty_channel, settled_hazard}
use Rattle.clocks.specs.Clocks.{one}
use Rattle.clocks.specs.Ticks.{ticks_of}
use Rattle.clocks.specs.declared.channels.HazardChannelState.{HazardChannelState}
use Rattle.clocks.specs.declared.ticks.Ticks.{Ticks}
use Rattle.engine.specs.Commands as commands
use Rattle.engine.specs.State.{slot_at, queued_requests, EngineState}
use Rattle.engine.specs.Engine.{Bytes}
use Rattle.engine.specs.Execute.{execute}
use Rattle.engine.specs.Sessions.{Session}
use Rattle.engine.specs.Instance.{engine_of}
use Rattle.engine.specs.Demand3 as demand
use Rattle.engine.specs.Answers.{answer_of}

-- ---- floats: fin false m e is m times 2^e, and negsuc 0 is -1

abbrev pub half : Float
half = fin false 1 (negsuc 0)

-- the f64 just below 0.5
abbrev pub below_half : Float
below_half = of_bits binary64 0x3fdf_ffff_ffff_ffff

abbrev pub two : Float
two = fin false 1 (pos 1)

abbrev pub two_and_half : Float
two_and_half = fin false 5 (negsuc 0)

abbrev pub three : Float
three = fin false 3 (pos 0)

abbrev pub four : Float
four = fin false 1 (pos 2)

abbrev pub five : Float
five = fin false 5 (pos 0)

abbrev pub six : Float
six = fin false 3 (pos 1)

abbrev pub ten : Float
ten = fin false 5 (pos 1)

-- an f64's 8 bytes
abbrev pub f64 : Float → Bytes
f64 x = bytes_of 8 (to_bits binary64 x)

-- ---- rows 1 to 6

-- P = pairs (2, 1.0), (5, 0.0), trailing 0.5
abbrev pub P : Intervals
P = record { ends = two ∷ five ∷ replicate 6 z; rates = one ∷ z ∷ replicate 6 z; count = 2 }

abbrev pub trailing : HazardRate
trailing = Piecewise half

-- ---- row 7: the sampler

-- Constant 0.5, which waits 4.0 for the threshold 2.0
abbrev pub competing : ℕ → ℕ → CompetingCause
competing cause priority = record {
  cause_id = cause;
  priority = priority;
  hazard = record { kind = 1; first = half; count = 0; ends = replicate 8 z; rates = replicate 8 z };
}

-- the two records that are used, and six that are not
abbrev pub causes : List CompetingCause
causes = competing 3 1 ∷ competing 7 9 ∷ replicate 6 (competing 0 0)

-- from age 0, no censor
abbrev pub settings : ℕ → SampleSettings
settings tie = record { tie = tie; current_age = z; has_censor = 0; censor_age = z }

-- over the threshold stream 2.0, 2.0
abbrev pub sampled_by : ℕ → Sampled
sampled_by tie = sample_next causes 2 (settings tie) (f64 two ++ f64 two) 0

-- the cause's event after 4.0; two thresholds are drawn
abbrev pub event_after_four : ℕ → Sampled
event_after_four cause = record { answer = event_of cause four false 0; position = record { next = 2 } }

-- ---- row 8: ticks as low and high word

abbrev pub words : ℕ → ℕ → Ticks
words low high = record { low = low; high = high }

-- ---- rows 9 to 12: commands, of clock 0 but for CREATE

-- CREATE clock u8, process u64, policy, tie, scale f64, has-entity, entity index u64, generation u32
abbrev pub create_bytes : ℕ → ℕ → Float → Bytes
create_bytes clock policy scale = (commands.create ∷ clock ∷ replicate 8 0) ++ ((policy ∷ 0 ∷ f64 scale) ++ replicate 13 0)

-- SET clock u8, cause u32, priority u32, kind, first f64, now f64, count u8, 8 pairs: cause 1, Constant 0.5
abbrev pub set_bytes : Float → Bytes
set_bytes now = (commands.set ∷ 0 ∷ bytes_of 4 1) ++ (replicate 4 0 ++ ((1 ∷ f64 half) ++ (f64 now ++ replicate 129 0)))

-- has-censor, censor f64
abbrev pub no_censor : Bytes
no_censor = replicate 9 0

abbrev pub censor_at : Float → Bytes
censor_at time = 1 ∷ f64 time

-- RESCHEDULE clock u8, now f64, has-censor, censor f64, priority i32
abbrev pub reschedule_bytes : Float → Bytes → Bytes
reschedule_bytes now censor = (commands.reschedule ∷ 0 ∷ f64 now) ++ (censor ++ replicate 4 0)

-- PAUSE clock u8, now f64
abbrev pub pause_bytes : Float → Bytes
pause_bytes now = commands.pause ∷ 0 ∷ f64 now

-- RESUME, operands as RESCHEDULE
abbrev pub resume_bytes : Float → Bytes
resume_bytes now = (commands.resume ∷ 0 ∷ f64 now) ++ (no_censor ++ replicate 4 0)

abbrev pub undo_bytes : Bytes
undo_bytes = commands.undo ∷ []

-- ---- rows 9 to 12: the engine

-- the threshold stream (document 01: tape) 2.0, 1.0
abbrev pub stream : Bytes
stream = f64 two ++ f64 one

-- more than the commands of any row need
abbrev pub journal_length : ℕ
journal_length = 400

-- a newly opened engine after inputs
abbrev pub row_session : List Bytes → Session (engine_of stream journal_length)
row_session inputs = demand.session_after stream journal_length inputs

-- its answer to one more
abbrev pub answer_to : List Bytes → Bytes → Answer
answer_to inputs i =
    answer_of (execute (engine_of stream journal_length) (row_session inputs).state (row_session inputs).journal i).reply

abbrev pub ticks_in : Answer → Ticks
ticks_in a = words a.ticks_low a.ticks_high

-- the first channel of clock 0, which is cause 1's
abbrev pub channel_in : EngineState → HazardChannelState
channel_in s = get_or (slot_at s 0).clock.channels 0 empty_channel

-- the ticks of the queued requests
abbrev pub queued_ticks : List Bytes → List Ticks
queued_ticks inputs = map (λ r. r.ticks) (queued_requests (row_session inputs).state.shared)

-- RetainResidual, scale 10; Constant 0.5 set at 0
abbrev pub started : List Bytes
started = create_bytes 0 1 ten ∷ set_bytes z ∷ []

abbrev pub rescheduled : List Bytes
rescheduled = started ++ (reschedule_bytes z no_censor ∷ [])

abbrev pub paused : List Bytes
paused = rescheduled ++ (pause_bytes one ∷ [])

abbrev pub undone : List Bytes
undone = paused ++ (resume_bytes three ∷ undo_bytes ∷ undo_bytes ∷ [])

abbrev pub set_later : List Bytes
set_later = rescheduled ++ (set_bytes four ∷ [])

-- 00 01 00 00, 01 00 00 00, 00 00 00 00 00 00 10 40, 28 and seven 00, eight 00; by change 6 of document 02 eight 00 more
abbrev pub row_nine_bytes : Bytes
row_nine_bytes =
    (0x00 ∷ 0x01 ∷ 0x00 ∷ 0x00 ∷ [])
    ++ ((0x01 ∷ 0x00 ∷ 0x00 ∷ 0x00 ∷ [])
    ++ ((0x00 ∷ 0x00 ∷ 0x00 ∷ 0x00 ∷ 0x00 ∷ 0x00 ∷ 0x10 ∷ 0x40 ∷ [])
    ++ ((0x28 ∷ replicate 7 0x00) ++ (replicate 8 0x00 ++ replicate 8 0x00))))

-- ---- the table

pub record TwelveRows : Type 0 where
  -- Constant 0.5, cumulative at 4.0: 2.0
  pub row_1 : cumulative_hazard (Constant half) empty_intervals four ≡ two
  -- P, hazard at 1.0: 1.0; at 2.0: 0.0
  pub row_2 : (hazard_at trailing P one ≡ one) × (hazard_at trailing P two ≡ z)
  -- P, cumulative at 2.0: 2.0; at 6.0: 2.5
  pub row_3 : (cumulative_hazard trailing P two ≡ two) × (cumulative_hazard trailing P six ≡ two_and_half)
  -- P from 0, w 2.0: 2.0; w 2.5: 6.0
  pub row_4 : (invert_cumulative_hazard trailing P z two ≡ some_wait two 0) × (invert_cumulative_hazard trailing P z two_and_half ≡ some_wait six 2)
  -- P from 2.0, w 0.5: 4.0
  pub row_5 : invert_cumulative_hazard trailing P two half ≡ some_wait four 2
  -- Zero, w 0: 0.0; w 1.0: no wait
  pub row_6 : (invert_cumulative_hazard Zero empty_intervals z z ≡ some_wait z 0) × (invert_cumulative_hazard Zero empty_intervals z one ≡ None)
  -- Both waits 4.0, cause 3 priority 1, cause 7 priority 9: ties 0, 1, 2 give 3, 7, 7
  pub row_7 : (sampled_by 0 ≡ event_after_four 3) × (sampled_by 1 ≡ event_after_four 7) × (sampled_by 2 ≡ event_after_four 7)
  -- Ticks of 0.5, 2.5: 1, 3; of the f64 just below 0.5: 0; of 2^64: low 0, high 1
  pub row_8 : (ticks_of half ≡ words 1 0) × (ticks_of two_and_half ≡ words 3 0) × (ticks_of below_half ≡ words 0 0)
      × (ticks_of (fin false 1 (pos 64)) ≡ words 0 1)
  -- Tape 2.0, 1.0; RetainResidual, scale 10; Constant 0.5 set at 0; RESCHEDULE at 0, no censor, cause 1: the answer's bytes
  pub row_9 : answer_bytes (answer_to started (reschedule_bytes z no_censor)) ≡ row_nine_bytes
  -- Then PAUSE at 1: accumulated 0.5. RESUME at 3: delta 3.0, ticks 60. Two UNDOs: ticks 40 queued
  pub row_10 : ((channel_in (row_session paused).state).accumulated_hazard ≡ half)
      × ((answer_to paused (resume_bytes three)).delta ≡ three)
      × (ticks_in (answer_to paused (resume_bytes three)) ≡ words 60 0)
      × (queued_ticks undone ≡ words 40 0 ∷ [])
  -- Instead, SET the same cause at 4: 2.0 reaches 2.0, so 1.0 is drawn
  pub row_11 : (settled_hazard (channel_in (row_session rescheduled).state) four ≡ two)
      × ((channel_in (row_session rescheduled).state).target_threshold ≡ two)
      × ((channel_in (row_session set_later).state).target_threshold ≡ one)
      × ((row_session set_later).state.shared.position ≡ 2)
  -- Censor time equal to the event's: not censored
  pub row_12 : answer_bytes (answer_to started (reschedule_bytes z (censor_at four))) ≡ row_nine_bytes
