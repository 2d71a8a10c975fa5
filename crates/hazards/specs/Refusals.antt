-- Document 01, "A command comes in" and "Run call and sampler": every refusal with its number, in the order of checking and in
-- the table's words; then those of document 02. Every crate takes them from here.
-- Document 01's tape is the recorded threshold stream here, and an entry a threshold; what stands is what is applied; the run call
-- is the batch run.
use Rattle.std.specs.Prelude.{Bool, false, not, cond, ◌||◌, ◌≡◌, ◌≢◌, ℕ, eqb, Result, Ok, Err, MatchResult}
use Rattle.hazards.specs.declared.refusals.Faults.{Faults}
use Rattle.hazards.specs.declared.refusals.Refusal.{Refusal}
use Rattle.hazards.specs.declared.refusals.Refusal.TheVariants.{InvalidState, NoCommand, CutShort, BadChoice, OutOfRange, BadIntervals, BadIdentifier, ClockPresent, ClockAbsent, TooManyCauses}
use Rattle.hazards.specs.declared.refusals.Refusal.TheVariants.{QueueEmpty, NothingApplied, ReplayFails, JournalFull, StreamExhausted, BadThreshold, AnswersFull, BadBuffers, OutsideLimits, NoRate}
use Rattle.hazards.specs.declared.refusals.UnknownRefusal.{UnknownRefusal}

-- state handed in: over 8 channels in a clock or pairs in a channel, a hazard 5 or 6 would refuse, a used float not finite,
-- causes in a clock not strictly ascending, over 16 queued requests, an index twice or not below the request counter, a queued
-- request whose clock is absent, doesn't name it or holds no winner, draw position above the stream's length, applied length above
-- the journal's length, or request counter above the applied length. A draw and the sampler meet only the draw position.
abbrev pub invalid_state : ℕ
invalid_state = 1

-- bytes: no byte, tested before 2; fewer than the width, tested after it
abbrev pub cut_short : ℕ
cut_short = 3

-- bytes: code not 01 to 08
abbrev pub no_command : ℕ
no_command = 2

-- fields: choice or has-byte off its list, or unused entity, censor or kind-0 first not zero bits
abbrev pub bad_choice : ℕ
bad_choice = 4

-- fields: now or censor with sign bit set or above 2^40; first, used rate or scale not finite or of size above 2^40. In the
-- public evaluations also a time or w that is NaN, infinite or above 2^40 in size.
abbrev pub out_of_range : ℕ
out_of_range = 5

-- fields: count above 8, count or pairs not zero where unused, or used ends not above 0, at most 2^40 and strictly ascending
abbrev pub bad_intervals : ℕ
bad_intervals = 6

-- fields: clock above 15, cause FFFFFFFF hex
abbrev pub bad_identifier : ℕ
bad_identifier = 7

-- clock: CREATE on a present clock
abbrev pub clock_present : ℕ
clock_present = 8

-- clock: another command on an absent clock
abbrev pub clock_absent : ℕ
clock_absent = 9

-- clock: SET of a ninth cause; in the sampler more than 8 records
abbrev pub too_many_causes : ℕ
too_many_causes = 10

-- queue: DELIVER, queue empty
abbrev pub queue_empty : ℕ
queue_empty = 11

-- undo: UNDO, nothing stands
abbrev pub nothing_applied : ℕ
nothing_applied = 12

-- undo: the standing bytes hold an UNDO or, run from an opened engine, refuse or end in another state
abbrev pub replay_fails : ℕ
replay_fails = 13

-- journal: command longer than the free part (not for UNDO)
abbrev pub journal_full : ℕ
journal_full = 14

-- draw: a draw is due and the stream is used up
abbrev pub stream_exhausted : ℕ
stream_exhausted = 15

-- draw: the threshold due isn't finite, is below 0 or above 1,024
abbrev pub bad_threshold : ℕ
bad_threshold = 16

-- batch run: under an answer's bytes are left for a command, which isn't done
abbrev pub answers_full : ℕ
answers_full = 17

-- batch run, first of all and writing nothing: stream bytes aren't a multiple of 8 or the result isn't 16 bytes
abbrev pub bad_buffers : ℕ
bad_buffers = 18

-- ---- document 02, change 11: the rate for a wait

-- a threshold not above 0 or above 1,024, or a wait not from 2^-40 to 2^40
abbrev pub outside_limits : ℕ
outside_limits = 23

-- no f64 above 0 and at most 2^40 gives the wait
abbrev pub no_rate : ℕ
no_rate = 24

-- ---- the refusals by name

abbrev pub number : Refusal → ℕ
number InvalidState = invalid_state
number NoCommand = no_command
number CutShort = cut_short
number BadChoice = bad_choice
number OutOfRange = out_of_range
number BadIntervals = bad_intervals
number BadIdentifier = bad_identifier
number ClockPresent = clock_present
number ClockAbsent = clock_absent
number TooManyCauses = too_many_causes
number QueueEmpty = queue_empty
number NothingApplied = nothing_applied
number ReplayFails = replay_fails
number JournalFull = journal_full
number StreamExhausted = stream_exhausted
number BadThreshold = bad_threshold
number AnswersFull = answers_full
number BadBuffers = bad_buffers
number OutsideLimits = outside_limits
number NoRate = no_rate

-- the refusal with this number, or an error with a number that no refusal has
abbrev pub Numbers : ℕ → Result Refusal UnknownRefusal → Type 0
Numbers code r = MatchResult r (λ refusal. number refusal ≡ code) (λ e. (e.0 ≡ code) × ((refusal : Refusal) → number refusal ≢ code))

-- the number of a refusal, or 0
abbrev pub refused_number : {A : Type 0} → Result A Refusal → ℕ
refused_number (Ok _) = 0
refused_number (Err refusal) = number refusal

-- ---- refusals 4 to 7: one flag for each, of a part of an input

-- nothing is wrong
abbrev pub no_faults : Faults
no_faults = record { choice = false; range = false; intervals = false; identifier = false }

-- 5 alone, where a test on a float fails
abbrev pub range_fault_unless : Bool → Faults
range_fault_unless ok = record { choice = false; range = not ok; intervals = false; identifier = false }

-- the cause of a censored event, which no record may name
abbrev pub no_cause : ℕ
no_cause = 0xffff_ffff

abbrev pub is_reserved : ℕ → Bool
is_reserved cause = eqb cause no_cause

-- 7 alone, where a test holds
abbrev pub identifier_fault_if : Bool → Faults
identifier_fault_if reserved = record { choice = false; range = false; intervals = false; identifier = reserved }

-- of two parts, together
abbrev pub joined : Faults → Faults → Faults
joined a b = record {
  choice = a.choice || b.choice;
  range = a.range || b.range;
  intervals = a.intervals || b.intervals;
  identifier = a.identifier || b.identifier;
}

-- each number is tested over all parts before the next number; 0 where nothing is wrong
abbrev pub number_of : Faults → ℕ
number_of f =
    cond f.choice bad_choice
    (cond f.range out_of_range (cond f.intervals bad_intervals (cond f.identifier bad_identifier 0)))
