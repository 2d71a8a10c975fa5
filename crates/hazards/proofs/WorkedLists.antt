-- The sampler on lists worked through, computed from the definitions: lists in two orders, ties of each kind, a censor age before, at and
-- after the event, no candidate, an empty list; where rounding parts the wait from the sum; and repeated causes, whose order matters. Then
-- each theorem of change 8, applied to one of these lists.
use mathlib.Core.Path.{◌≡◌, refl, ap}
use mathlib.Core.Bool.{Bool, true, false}
use mathlib.Core.List.{List, [], ◌∷◌, ◌++◌}
use mathlib.Core.Option.{some}
use Prim.Native.Nat.{ℕ, zero, suc, ◌+◌, ◌*◌}
use native.Mathlib.Omega.{arith}
use lib.IntN.{pos, negsuc}
use lib.Dec.{ltb}
use lib.ListN.{length, replicate, get_elem?}
use lib.Ieee.{Float, fin, binary64, of_bits, to_bits, add, sub, mul, div, lt, le, eq}
use lib.Ieee.Positive.{num, den}
use Rattle.hazards.specs.Floats.{z, two, limit, not_below_zero, zero_bits, in_range, is_time, is_threshold, is_finite_wait}
use Rattle.hazards.specs.Lists.{all, foldl, insert_by, sort_by}
use Rattle.hazards.specs.Fields.{little_endian, bytes_of, field_at, f64_at}
use Rattle.hazards.specs.Refusals.{no_cause}
use Rattle.hazards.specs.Answers.{no_event, event_of}
use Rattle.hazards.specs.Rates.{pieces_by, used_pairs, constant_wait, wait_of_rate, invert_cumulative_hazard}
use Rattle.hazards.specs.Checks.{range_fault, ascending, intervals_fault, choice_fault, hazard_faults}
use Rattle.hazards.specs.Draws.{draw_at}
use Rattle.hazards.specs.Ties.{candidate_after, preferred, precedes, earlier, earliest}
use Rattle.hazards.specs.Sampler.{faults_of_all, settings_faults, draws_refusal, sample_refusal, candidates, censored_at, sampled_event}
use Rattle.hazards.specs.Sampler.{sample_next}
use Rattle.hazards.specs.ListOrder.{Reordered, different_causes, exactly_below, LeavesNoCandidate, Winner, NothingAhead}
use Rattle.hazards.specs.ListOrder.Reordered.{swap}
use Rattle.hazards.specs.declared.answers.Answer.{Answer}
use Rattle.hazards.specs.declared.ties.Candidate.{Candidate}
use Rattle.hazards.specs.declared.ties.TieBreaker.TheVariants.{ExplicitPriority}
use Rattle.hazards.specs.declared.sampler.CompetingCause.{CompetingCause}
use Rattle.hazards.specs.declared.sampler.SampleSettings.{SampleSettings}
use Rattle.hazards.specs.declared.sampler.Sampled.{Sampled}
use Rattle.hazards.proofs.Members.{of_place}
use Rattle.hazards.proofs.Reorderings.{every_order}
use Rattle.hazards.proofs.ListOrder.{any_order, censored_answer, uncensored_winner, empty_list, no-event}

-- ---- what the lists are made of

unfoldable computed : Unit {0}
unfolding of_bits to_bits add sub mul div lt le eq not_below_zero zero_bits in_range is_time is_threshold is_finite_wait all foldl insert_by sort_by
    little_endian bytes_of field_at f64_at pieces_by used_pairs constant_wait wait_of_rate invert_cumulative_hazard range_fault ascending intervals_fault
    choice_fault hazard_faults draw_at candidate_after preferred precedes earlier earliest faults_of_all settings_faults draws_refusal sample_refusal
    candidates censored_at sampled_event sample_next different_causes
computed = tt

abbrev half : Float
half = fin false 1 (negsuc 0)

abbrev pub one : Float
one = fin false 1 (pos 0)

abbrev one_and_half : Float
one_and_half = fin false 3 (negsuc 0)

abbrev pub four : Float
four = fin false 1 (pos 2)

-- 1 + k u, where u = 2^-52 is the distance from 1 to the next f64
abbrev one_plus : ℕ → Float
one_plus k = of_bits binary64 (0x3ff0_0000_0000_0000 + k)

-- a cause with a constant rate, or with none
abbrev constant : ℕ → ℕ → Float → CompetingCause
constant cause priority rate = record {
  cause_id = cause;
  priority = priority;
  hazard = record { kind = 1; first = rate; count = 0; ends = replicate 8 z; rates = replicate 8 z };
}

abbrev never : ℕ → CompetingCause
never cause = record {
  cause_id = cause;
  priority = 0;
  hazard = record { kind = 0; first = z; count = 0; ends = replicate 8 z; rates = replicate 8 z };
}

abbrev uncensored : ℕ → Float → SampleSettings
uncensored tie age = record { tie = tie; current_age = age; has_censor = 0; censor_age = z }

abbrev censored : Float → Float → SampleSettings
censored age censor = record { tie = 0; current_age = age; has_censor = 1; censor_age = censor }

abbrev stream_of : List Float → List ℕ
stream_of [] = []
stream_of (t ∷ ts) = bytes_of 8 (to_bits binary64 t) ++ stream_of ts

-- all records of a list are used, and the draws begin with the stream
abbrev sample : List CompetingCause → SampleSettings → List Float → Sampled
sample causes s thresholds = sample_next causes (length causes) s (stream_of thresholds) 0

abbrev answers : List CompetingCause → SampleSettings → List Float → Answer
answers causes s thresholds = (sample causes s thresholds).answer

-- ---- two orders of two causes, the lower of which draws first

abbrev low : CompetingCause
low = constant 1 0 one

abbrev high : CompetingCause
high = constant 2 0 one

pub worked_orders : (sample (low ∷ high ∷ []) (uncensored 0 z) (two ∷ one ∷ [])
    ≡ record { answer = event_of 2 one false 0; position = record { next = 2 } })
    × (sample (high ∷ low ∷ []) (uncensored 0 z) (two ∷ one ∷ [])
    ≡ record { answer = event_of 2 one false 0; position = record { next = 2 } })
    × (answers (low ∷ high ∷ []) (uncensored 0 z) (one ∷ two ∷ []) ≡ event_of 1 one false 0)
    × (answers (high ∷ low ∷ []) (uncensored 0 z) (one ∷ two ∷ []) ≡ event_of 1 one false 0)
unfolding computed
worked_orders = (refl, refl, refl, refl)

-- ---- both after 1.0: ties of each kind, in both orders

abbrev both : List Float
both = one ∷ one ∷ []

-- the lowest cause, the highest, the higher priority number, and the lowest cause of equal priorities
pub worked_ties : (answers (low ∷ high ∷ []) (uncensored 0 z) both ≡ event_of 1 one false 0)
    × (answers (high ∷ low ∷ []) (uncensored 0 z) both ≡ event_of 1 one false 0)
    × (answers (low ∷ high ∷ []) (uncensored 1 z) both ≡ event_of 2 one false 0)
    × (answers (high ∷ low ∷ []) (uncensored 1 z) both ≡ event_of 2 one false 0)
    × (answers (low ∷ constant 2 7 one ∷ []) (uncensored 2 z) both ≡ event_of 2 one false 0)
    × (answers (constant 2 7 one ∷ low ∷ []) (uncensored 2 z) both ≡ event_of 2 one false 0)
    × (answers (low ∷ high ∷ []) (uncensored 2 z) both ≡ event_of 1 one false 0)
    × (answers (high ∷ low ∷ []) (uncensored 2 z) both ≡ event_of 1 one false 0)
unfolding computed
worked_ties = (refl, refl, refl, refl, refl, refl, refl, refl)

-- a candidate after 1.0
abbrev after_one : ℕ → ℕ → Candidate
after_one cause priority = record { cause_id = cause; priority = priority; time = one; piece = 0 }

-- three at one time, by their priorities, in two of their six orders; neither of the others is preferred to the winner
pub worked_three : (answers (constant 1 1 one ∷ constant 2 3 one ∷ constant 3 2 one ∷ []) (uncensored 2 z) (one ∷ both)
    ≡ event_of 2 one false 0)
    × (answers (constant 3 2 one ∷ constant 1 1 one ∷ constant 2 3 one ∷ []) (uncensored 2 z) (one ∷ both) ≡ event_of 2 one false 0)
    × (preferred ExplicitPriority (after_one 1 1) (after_one 2 3) ≡ false)
    × (preferred ExplicitPriority (after_one 3 2) (after_one 2 3) ≡ false)
unfolding computed
worked_three = (refl, refl, refl, refl)

-- ---- one cause, whose event is at 1.0 + 1.0, and a censor age

-- between the two, at the event and after it
pub worked_censor : (answers (low ∷ []) (censored one one_and_half) (one ∷ []) ≡ event_of no_cause half true 0)
    × (answers (low ∷ []) (censored one two) (one ∷ []) ≡ event_of 1 one false 0)
    × (answers (low ∷ []) (censored one four) (one ∷ []) ≡ event_of 1 one false 0)
unfolding computed
worked_censor = (refl, refl, refl)

-- two causes, in both orders: the earlier is after the censor age, and before it
pub worked_censored_orders : (answers (low ∷ high ∷ []) (censored one one_and_half) (two ∷ one ∷ []) ≡ event_of no_cause half true 0)
    × (answers (high ∷ low ∷ []) (censored one one_and_half) (two ∷ one ∷ []) ≡ event_of no_cause half true 0)
    × (answers (low ∷ high ∷ []) (censored one four) (two ∷ one ∷ []) ≡ event_of 2 one false 0)
    × (answers (high ∷ low ∷ []) (censored one four) (two ∷ one ∷ []) ≡ event_of 2 one false 0)
unfolding computed
worked_censored_orders = (refl, refl, refl, refl)

-- before the current age and at it: an event with no wait at all comes, any other is censored there and then
pub worked_censor_past : (answers (low ∷ []) (censored one half) (one ∷ []) ≡ event_of no_cause z true 0)
    × (answers (low ∷ []) (censored one half) (z ∷ []) ≡ event_of 1 z false 0)
    × (answers (low ∷ []) (censored one one) (one ∷ []) ≡ event_of no_cause z true 0)
    × (answers (low ∷ []) (censored one one) (z ∷ []) ≡ event_of 1 z false 0)
unfolding computed
worked_censor_past = (refl, refl, refl, refl)

-- ---- no candidate: a censor age after, at and before the current one, or none

pub worked_no_candidate : (answers (never 1 ∷ []) (censored one two) (one ∷ []) ≡ event_of no_cause one true 0)
    × (answers (never 1 ∷ []) (censored one one) (one ∷ []) ≡ no_event 0)
    × (answers (never 1 ∷ []) (censored one half) (one ∷ []) ≡ no_event 0)
    × (answers (never 1 ∷ []) (uncensored 0 one) (one ∷ []) ≡ no_event 0)
unfolding computed
worked_no_candidate = (refl, refl, refl, refl)

-- an empty list, even with a censor age after the current one; nothing is drawn
pub worked_empty : sample [] (censored one two) (one ∷ []) ≡ record { answer = no_event 0; position = record { next = 0 } }
unfolding computed
worked_empty = refl

-- ---- rounding

-- age + wait is above the censor age, in exact numbers
abbrev exactly_above : Float → Float → Float → Bool
exactly_above age wait censor = ltb (num censor * (den age * den wait)) ((num age * den wait + num wait * den age) * den censor)

-- 1.5 u
abbrev small_age : Float
small_age = fin false 3 (negsuc 52)

-- Age 1.5 u, censor age 1 + 3 u: their difference, 1 + 1.5 u, rounds up to 1 + 2 u. A wait of 1 + 2 u is not censored, although age + wait
-- is 1 + 3.5 u, and 1 + 4 u when rounded: "isn't after a censor age" holds of neither sum.
pub worked_rounded_up : (sub binary64 (one_plus 3) small_age ≡ one_plus 2)
    × (answers (low ∷ []) (censored small_age (one_plus 3)) (one_plus 2 ∷ []) ≡ event_of 1 (one_plus 2) false 0)
    × (exactly_above small_age (one_plus 2) (one_plus 3) ≡ true) × (add binary64 small_age (one_plus 2) ≡ one_plus 4)
unfolding computed
worked_rounded_up = (refl, refl, refl, refl)

-- 0.5 u
abbrev smaller_age : Float
smaller_age = fin false 1 (negsuc 52)

-- Age 0.5 u, censor age 1 + u: their difference, 1 + 0.5 u, rounds down to 1. A wait of 1 is as long as that and not censored; it is
-- before the censor age, so a rule that censored it would leave a candidate below.
pub worked_rounded_down : (sub binary64 (one_plus 1) smaller_age ≡ one)
    × (answers (low ∷ []) (censored smaller_age (one_plus 1)) (one ∷ []) ≡ event_of 1 one false 0)
    × (exactly_below smaller_age one (one_plus 1) ≡ true) × (lt (add binary64 smaller_age one) (one_plus 1) ≡ true)
unfolding computed
worked_rounded_down = (refl, refl, refl, refl)

-- At age 2^40 waits of 1 and 1 + u: the sums round alike, yet the shorter wait wins, whatever the tie choice.
pub worked_long_age : (add binary64 limit (one_plus 1) ≡ add binary64 limit one)
    × (answers (low ∷ high ∷ []) (uncensored 0 limit) (one_plus 1 ∷ one ∷ []) ≡ event_of 2 one false 0)
    × (answers (low ∷ high ∷ []) (uncensored 1 limit) (one ∷ one_plus 1 ∷ []) ≡ event_of 1 one false 0)
    × (answers (low ∷ constant 2 7 one ∷ []) (uncensored 2 limit) (one ∷ one_plus 1 ∷ []) ≡ event_of 1 one false 0)
unfolding computed
worked_long_age = (refl, refl, refl, refl)

-- ---- repeated causes: the order of the list is the order of the draws, and the answers differ

abbrev slow : CompetingCause
slow = constant 1 0 one

abbrev fast : CompetingCause
fast = constant 1 0 two

pub worked_repeated : (different_causes (slow ∷ fast ∷ []) ≡ false)
    × (answers (slow ∷ fast ∷ []) (uncensored 0 z) (one ∷ four ∷ []) ≡ event_of 1 one false 0)
    × (answers (fast ∷ slow ∷ []) (uncensored 0 z) (one ∷ four ∷ []) ≡ event_of 1 half false 0)
unfolding computed
worked_repeated = (refl, refl, refl)

-- ---- the theorems apply

low_high_differ : different_causes (low ∷ high ∷ []) ≡ true
unfolding computed
low_high_differ = refl

-- whatever the settings and thresholds
pub applied-any-order : (s : SampleSettings) (thresholds : List Float) → sample (low ∷ high ∷ []) s thresholds
    ≡ sample (high ∷ low ∷ []) s thresholds
applied-any-order s thresholds =
    any_order (low ∷ high ∷ []) (high ∷ low ∷ []) 2 s (stream_of thresholds) 0 (swap low high []) low_high_differ

-- the first record stands second, the second first
elsewhere : (place : ℕ) (c : CompetingCause) → get_elem? (low ∷ high ∷ []) place ≡ some c
    → (other : ℕ) × (get_elem? (high ∷ low ∷ []) other ≡ some c)
elsewhere zero c e = (1, e)
elsewhere (suc zero) c e = (0, e)
elsewhere (suc (suc place)) c e = absurd (of_place c [] place e)

pub applied_every_order : Reordered (low ∷ high ∷ []) (high ∷ low ∷ [])
applied_every_order = every_order (low ∷ high ∷ []) (high ∷ low ∷ []) low_high_differ refl elsewhere

-- a censored answer, a winner before the censor age, no event
pub applied_censored : LeavesNoCandidate (low ∷ []) 1 (censored one one_and_half) (stream_of (one ∷ [])) 0
unfolding computed
applied_censored = censored_answer (low ∷ []) 1 (censored one one_and_half) (stream_of (one ∷ [])) 0 refl

pub applied_winner : (w : Candidate) × Winner (low ∷ high ∷ []) 2 (censored one four) (stream_of (two ∷ one ∷ [])) 0 w
unfolding computed
applied_winner = uncensored_winner (low ∷ high ∷ []) 2 (censored one four) (stream_of (two ∷ one ∷ [])) 0 refl refl

pub applied_empty : answers [] (censored one two) (one ∷ []) ≡ no_event 0
unfolding computed
applied_empty = empty_list [] 0 (censored one two) (stream_of (one ∷ [])) 0 refl refl

pub applied_no_event : NothingAhead (never 1 ∷ []) 1 (censored one one) (stream_of (one ∷ [])) 0
unfolding computed
applied_no_event = (no-event (never 1 ∷ []) 1 (censored one one) (stream_of (one ∷ [])) 0 one_record refl).only refl
  where
    one_record : never 1 ∷ [] ≡ [] → ⊥
    one_record e = let k : ◌≡◌ {A = ℕ} 1 0 = ap length e in omega arith
