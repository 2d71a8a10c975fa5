-- Document 01, "A command comes in", and document 02, change 4: what refusals 4 to 6 say of a hazard. 5 and 6 are stated of the hazard
-- itself, so that they serve the fields of a command and a stored channel alike.
use Rattle.std.specs.Prelude.{Bool, true, false, not, ◌&&◌, ◌||◌, List, [], ◌∷◌, ℕ, ◌-◌, eqb, ltb, Float}
use Rattle.std.specs.Float.Ieee.{lt, le}
use Rattle.hazards.specs.Floats.{z, limit, inverse_limit, zero_bits, in_range}
use Rattle.hazards.specs.Lists.{all}
use Rattle.hazards.specs.Rates.{kinds, rate_of_kind, Piece, pieces_by, pair_at, used_pairs}
use Rattle.hazards.specs.declared.checks.HazardFields.{HazardFields}
use Rattle.hazards.specs.declared.checks.LentHazard.{LentHazard}
use Rattle.hazards.specs.declared.refusals.Faults.{Faults}
use Rattle.hazards.specs.declared.rates.HazardRate.{HazardRate}
use Rattle.hazards.specs.declared.rates.HazardRate.TheVariants.{Zero, Constant, Gompertz, Piecewise, Weibull}
use Rattle.hazards.specs.declared.rates.Intervals.{Intervals}

-- ---- refusals 5 and 6 of a hazard

-- a scale out of range, or above 0 and below 2^-40
abbrev pub scale_fault : Float → Bool
scale_fault scale = not (in_range scale) || (lt z scale && lt scale inverse_limit)

-- 5: first or a used rate not finite or of size above 2^40; a scale above 0 and below 2^-40
unfoldable pub range_fault : HazardRate → Intervals → Bool
range_fault Zero p = false
range_fault (Constant rate) p = not (in_range rate)
range_fault (Gompertz eta) p = not (in_range eta)
range_fault (Piecewise trailing) p = not (in_range trailing && all (λ q. in_range q.rate) (used_pairs p))
range_fault (Weibull scale) p = scale_fault scale

-- the eight pairs from index i on
abbrev pub pairs_from : Intervals → ℕ → List Piece
pairs_from p i = pieces_by (pair_at p) i (8 - i)

abbrev pub zero_pair : Piece → Bool
zero_pair q = zero_bits q.end && zero_bits q.rate

-- each end above the one before it, and at most 2^40
unfoldable pub ascending : Float → List Piece → Bool
ascending before [] = true
ascending before (q ∷ qs) = lt before q.end && (le q.end limit && ascending q.end qs)

-- count or pairs not zero where they are unused
abbrev pub unused_fault : Intervals → Bool
unused_fault p = not (eqb p.count 0 && all zero_pair (pairs_from p 0))

-- count above 8, pairs from count on not zero, or used ends not above 0, at most 2^40 and strictly ascending
abbrev pub pairs_fault : Intervals → Bool
pairs_fault p = ltb 8 p.count || not (all zero_pair (pairs_from p p.count) && ascending z (used_pairs p))

-- 6
unfoldable pub intervals_fault : HazardRate → Intervals → Bool
intervals_fault Zero p = unused_fault p
intervals_fault (Constant rate) p = unused_fault p
intervals_fault (Gompertz eta) p = unused_fault p
intervals_fault (Piecewise trailing) p = pairs_fault p
intervals_fault (Weibull scale) p = unused_fault p

-- ---- the fields of a hazard as in SET

abbrev pub fields_from : ℕ → Float → ℕ → List Float → List Float → HazardFields
fields_from kind first count ends rates = record { kind = kind; first = first; count = count; ends = ends; rates = rates }

-- the fields of which the pairs are lent
abbrev pub lent_fields : LentHazard → HazardFields
lent_fields h = fields_from h.kind h.first h.pairs.count h.pairs.ends.now h.pairs.rates.now

abbrev pub hazard_of : HazardFields → HazardRate
hazard_of f = rate_of_kind f.kind f.first

abbrev pub intervals_of : HazardFields → Intervals
intervals_of f = record { ends = f.ends; rates = f.rates; count = f.count }

-- 4: a kind off its list, or the unused first of kind 0 not zero bits
unfoldable pub choice_fault : HazardFields → Bool
choice_fault f = not (ltb f.kind kinds) || (eqb f.kind 0 && not (zero_bits f.first))

unfoldable pub hazard_faults : HazardFields → Faults
hazard_faults f = record {
  choice = choice_fault f;
  range = range_fault (hazard_of f) (intervals_of f);
  intervals = intervals_fault (hazard_of f) (intervals_of f);
  identifier = false;
}
