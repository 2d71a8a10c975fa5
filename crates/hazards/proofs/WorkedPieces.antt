-- The piece of an inversion, of a sample and of an answer's bytes, computed from the definitions: a w that just fills a pair and the next
-- above it, a start at an end, what has no piece, and a wait that rounding takes past the end of the pair used. Then the two theorems of
-- change 6, applied.
use mathlib.Core.Path.{◌≡◌, refl}
use mathlib.Core.Bool.{Bool, true, false}
use mathlib.Core.List.{List, [], ◌∷◌, ◌++◌}
use Prim.Native.Nat.{ℕ}
use lib.IntN.{pos, negsuc}
use native.Mathlib.Omega.{arith}
use lib.ListN.{replicate, drop}
use lib.Ieee.{Float, inf, fin, binary64, add, sub, mul, div, lt, le, of_bits, to_bits}
use Rattle.std.specs.Prelude.{Option, None}
use Rattle.hazards.specs.Floats.{z, two, not_below_zero, zero_bits, in_range, is_time, is_threshold, is_finite_wait}
use Rattle.hazards.specs.Lists.{all, foldl, insert_by, sort_by}
use Rattle.hazards.specs.Fields.{little_endian, bytes_of, field_at, f64_at}
use Rattle.hazards.specs.FirstPlace.{first_of}
use Rattle.hazards.specs.Roots.{fields_multiple, multiple, square_above, root_pattern, nearest_root}
use Rattle.hazards.specs.Refusals.{no_cause}
use Rattle.hazards.specs.Answers.{event_of, head_bytes, answer_bytes}
use Rattle.hazards.specs.Rates.{pieces_by, first_after, used_pairs, weibull_cumulative, weibull_wait, ends_in, wait_from, constant_wait}
use Rattle.hazards.specs.Rates.{wait_of_rate, invert_cumulative_hazard, some_wait}
use Rattle.hazards.specs.Checks.{range_fault, ascending, intervals_fault, choice_fault, hazard_faults}
use Rattle.hazards.specs.Evaluations.{evaluated_inversion}
use Rattle.hazards.specs.Draws.{draw_at}
use Rattle.hazards.specs.Ties.{capped_piece, candidate_after, preferred, precedes, earlier, earliest}
use Rattle.hazards.specs.Sampler.{faults_of_all, settings_faults, draws_refusal, sample_refusal, candidates, censored_at, sampled_event}
use Rattle.hazards.specs.Sampler.{sample_next}
use Rattle.hazards.specs.PieceUsed.{EndsIn, rate_of, end_of}
use Rattle.hazards.specs.declared.answers.Answer.{Answer}
use Rattle.hazards.specs.declared.checks.HazardFields.{HazardFields}
use Rattle.hazards.specs.Evaluations.{Inversion}
use Rattle.hazards.specs.declared.rates.HazardRate.TheVariants.{Zero, Constant, Gompertz, Piecewise, Weibull}
use Rattle.hazards.specs.declared.rates.Intervals.{Intervals}
use Rattle.hazards.specs.declared.rates.Wait.{Wait}
use Rattle.hazards.specs.declared.sampler.CompetingCause.{CompetingCause}
use Rattle.hazards.specs.declared.sampler.SampleSettings.{SampleSettings}
use Rattle.hazards.proofs.PieceStruck.{piece_used, piece_zero}

unfoldable computed : Unit {0}
unfolding of_bits to_bits add sub mul div lt le not_below_zero zero_bits in_range is_time is_threshold is_finite_wait all foldl insert_by sort_by
    little_endian bytes_of field_at f64_at first_of fields_multiple multiple square_above root_pattern nearest_root pieces_by first_after used_pairs
    weibull_cumulative weibull_wait ends_in wait_from constant_wait wait_of_rate invert_cumulative_hazard range_fault ascending intervals_fault
    choice_fault hazard_faults evaluated_inversion draw_at head_bytes answer_bytes candidate_after preferred precedes earlier earliest faults_of_all
    settings_faults draws_refusal sample_refusal candidates censored_at sampled_event sample_next rate_of end_of
computed = tt

-- ---- the floats and the curves

abbrev bits : ℕ → Float
bits b = of_bits binary64 b

abbrev half : Float
half = fin false 1 (negsuc 0)

-- n.0, for an odd n
abbrev whole : ℕ → Float
whole n = fin false n (pos 0)

abbrev four : Float
four = fin false 1 (pos 2)

abbrev six : Float
six = fin false 3 (pos 1)

-- the f64 next above 2.0, and 2^-50 above 5.0
abbrev above_two : Float
above_two = bits 0x4000_0000_0000_0001

abbrev above_five : Float
above_five = bits 0x4014_0000_0000_0001

-- 5e-324
abbrev least : Float
least = bits 1

-- document 01's P, pairs (2, 1.0), (5, 0.0), and the same with 0.5 for 0.0
abbrev pairs : Float → Intervals
pairs second = record { ends = two ∷ whole 5 ∷ replicate 6 z; rates = whole 1 ∷ second ∷ replicate 6 z; count = 2 }

abbrev none : Intervals
none = record { ends = replicate 8 z; rates = replicate 8 z; count = 0 }

-- with the trailing rate 0.5
abbrev wait : Intervals → Float → Float → Option Wait
wait p start w = invert_cumulative_hazard (Piecewise half) p start w

-- ---- pieces

-- from 0: 2.0 just fills pair 0; the next above it passes pair 1, whose rate is 0, and ends at the trailing rate, which has the number 2
pub worked_fills : (wait (pairs z) z two ≡ some_wait two 0) × (wait (pairs z) z above_two ≡ some_wait above_five 2)
unfolding computed
worked_fills = (refl, refl)

-- with a rate of 0.5 in pair 1 it ends there; 3.5 just fills both pairs
pub worked_second : (wait (pairs half) z above_two ≡ some_wait (bits 0x4000_0000_0000_0002) 1)
    × (wait (pairs half) z (fin false 7 (negsuc 0)) ≡ some_wait (whole 5) 1)
    × (wait (pairs half) z four ≡ some_wait six 2)
unfolding computed
worked_second = (refl, refl, refl)

-- a start at the end of pair 0 is in pair 1, one just before it in pair 0, and one at the last end at the trailing rate
pub worked_start : (wait (pairs half) two half ≡ some_wait (whole 1) 1)
    × (wait (pairs half) (bits 0x3fff_ffff_ffff_ffff) (bits 0x3cb0_0000_0000_0000) ≡ some_wait (bits 0x3cb0_0000_0000_0000) 0)
    × (wait (pairs half) (whole 5) half ≡ some_wait (whole 1) 2)
unfolding computed
worked_start = (refl, refl, refl)

-- no piece: a w at most 0, wherever the start lies; no wait; and a wait at the trailing rate that is infinite although the rate is above 0
pub worked_none : (wait (pairs half) (whole 9) z ≡ some_wait z 0) × (wait (pairs half) (whole 3) (fin true 1 (pos 0)) ≡ some_wait z 0)
    × (invert_cumulative_hazard (Piecewise z) (pairs half) (whole 5) half ≡ None)
    × (invert_cumulative_hazard (Piecewise least) (pairs half) (whole 5) (whole 3) ≡ some_wait (inf false) 0)
    × (invert_cumulative_hazard (Piecewise least) none z (whole 3) ≡ some_wait (inf false) 0)
unfolding computed
worked_none = (refl, refl, refl, refl, refl)

-- without pairs the trailing rate has number 0, and so have all other kinds
pub worked_others : (wait none (whole 5) half ≡ some_wait (whole 1) 0)
    × (invert_cumulative_hazard (Constant half) none (whole 5) half ≡ some_wait (whole 1) 0)
    × (invert_cumulative_hazard (Gompertz half) none (whole 5) half ≡ some_wait (whole 1) 0)
    × (invert_cumulative_hazard (Weibull (whole 1)) none z four ≡ some_wait two 0)
    × (invert_cumulative_hazard Zero none z half ≡ None)
unfolding computed
worked_others = (refl, refl, refl, refl, refl)

-- the pair used, not where the rounded wait falls: 0.30000000000000004 just fills a pair to 3.0 with rate 0.1, and the wait is above 3.0
pub worked_past_end :
    wait (record { ends = whole 3 ∷ replicate 7 z; rates = bits 0x3fb9_9999_9999_999a ∷ replicate 7 z; count = 1 }) z
    (bits 0x3fd3_3333_3333_3334)
    ≡ some_wait (bits 0x4008_0000_0000_0001) 0
unfolding computed
worked_past_end = refl

-- ---- the public inversion: a piece, an infinite wait, no wait, and two refusals

abbrev fields : ℕ → Float → Intervals → HazardFields
fields kind first p = record { kind = kind; first = first; count = p.count; ends = p.ends; rates = p.rates }

abbrev inversion : ℕ → Bool → Float → ℕ → Inversion
inversion number found wait piece = record { number = number; found = found; wait = wait; piece = piece }

pub worked_inversions : (evaluated_inversion (fields 3 half (pairs half)) z four ≡ inversion 0 true six 2)
    × (evaluated_inversion (fields 3 least (pairs half)) (whole 5) (whole 3) ≡ inversion 0 true (inf false) 0)
    × (evaluated_inversion (fields 3 z (pairs half)) (whole 5) half ≡ inversion 0 false z 0)
    × (evaluated_inversion (fields 3 half (pairs half)) z (inf false) ≡ inversion 5 false z 0)
    × (evaluated_inversion (fields 6 half (pairs half)) z four ≡ inversion 4 false z 0)
unfolding computed
worked_inversions = (refl, refl, refl, refl, refl)

-- what a candidate has of a piece
pub worked_cap : (capped_piece 8 ≡ 8) × (capped_piece 255 ≡ 255) × (capped_piece 256 ≡ 255) × (capped_piece 2048 ≡ 255)
worked_cap = (refl, refl, refl, refl)

-- ---- samples: cause 1 with the pairs above and a trailing rate of 0.5, cause 2 with the constant rate 1.0

abbrev causes : List CompetingCause
causes =
    record { cause_id = 1; priority = 0; hazard = fields 3 half (pairs half) }
    ∷ record { cause_id = 2; priority = 0; hazard = fields 1 (whole 1) none }
    ∷ []

abbrev settings : ℕ → Float → SampleSettings
settings has_censor censor = record { tie = 0; current_age = z; has_censor = has_censor; censor_age = censor }

abbrev sample : SampleSettings → Float → Float → Answer
sample s first second =
    (sample_next causes 2 s (bytes_of 8 (to_bits binary64 first) ++ bytes_of 8 (to_bits binary64 second)) 0).answer

-- cause 1 wins in piece 2, loses to cause 2, which has piece 0, and is censored, with piece 0
pub worked_samples : (sample (settings 0 z) four (whole 7) ≡ event_of 1 six false 2)
    × (sample (settings 0 z) four half ≡ event_of 2 half false 0)
    × (sample (settings 1 (whole 5)) four (whole 7) ≡ event_of no_cause (whole 5) true 0)
unfolding computed
worked_samples = (refl, refl, refl)

-- the last eight bytes of the answers: the piece stands in the first
pub worked_bytes : (drop 32 (answer_bytes (sample (settings 0 z) four (whole 7))) ≡ 2 ∷ replicate 7 0)
    × (drop 32 (answer_bytes (sample (settings 1 (whole 5)) four (whole 7))) ≡ replicate 8 0)
unfolding computed
worked_bytes = (refl, refl)

-- ---- the theorems, applied

-- the wait for 4.0 ends in piece 2, the trailing rate, which begins at 5.0
pub used : EndsIn (used_pairs (pairs half)) half (not_below_zero z) four six 2
unfolding computed
used = piece_used half (pairs half) z four six 2 refl refl refl

pub begins_at_five : used.cur ≡ whole 5
unfolding computed
begins_at_five = used.from_end 1 (omega arith) refl

-- an infinite wait has no piece
pub infinite_none : (piece : ℕ) → invert_cumulative_hazard (Piecewise least) none z (whole 3) ≡ some_wait (inf false) piece → piece ≡ 0
unfolding computed
infinite_none piece e = (piece_zero (Piecewise least) none z (whole 3) (inf false) piece e).no_finite_wait refl
