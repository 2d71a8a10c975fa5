-- The candidates of competing_risks.rs and hazard_clock.rs: which waits are candidates, and which of two comes first. Sampler and
-- clock share this; the time compared is the wait in the one and now + wait in the other. Document 01, "From HashMap and Vec":
-- sort_by is a scan for the best candidate, the earlier kept on a full tie. Document 02, change 6: a candidate has the piece that its wait
-- ends in.
use Rattle.std.specs.Prelude.{Bool, true, false, cond, List, [], ◌∷◌, ℕ, min, eqb, ltb, Float, Option, Some, None}
use Rattle.std.specs.Float.Ieee.{lt}
use Rattle.hazards.specs.Floats.{is_finite_wait}
use Rattle.hazards.specs.Lists.{foldl}
use Rattle.hazards.specs.declared.rates.Wait.{Wait}
use Rattle.hazards.specs.declared.ties.TieBreaker.{TieBreaker}
use Rattle.hazards.specs.declared.ties.TieBreaker.TheVariants.{LowestCauseId, HighestCauseId, ExplicitPriority}
use Rattle.hazards.specs.declared.ties.Candidate.{Candidate}

-- a piece as an answer has it, in one byte
abbrev pub capped_piece : ℕ → ℕ
capped_piece piece = min piece 255

-- a wait of at least 0 that is not infinite is a candidate, at a time worked out from it
unfoldable pub candidate_after : ℕ → ℕ → (Float → Float) → Option Wait → List Candidate
candidate_after cause priority time_of (Some wait) =
    cond (is_finite_wait wait.time)
    (record { cause_id = cause; priority = priority; time = time_of wait.time; piece = capped_piece wait.piece } ∷ [])
    []
candidate_after cause priority time_of None = []

-- tie: 0 lowest cause, 1 highest, 2 explicit priority; a tie above 2 is refused by 4 before this is asked
abbrev pub tie_breaker_of : ℕ → TieBreaker
tie_breaker_of tie = cond (eqb tie 0) LowestCauseId (cond (eqb tie 1) HighestCauseId ExplicitPriority)

-- a tie choice's number
abbrev pub tie_number : TieBreaker → ℕ
tie_number LowestCauseId = 0
tie_number HighestCauseId = 1
tie_number ExplicitPriority = 2

-- of two candidates at the same time; priorities: the higher number first
unfoldable pub preferred : TieBreaker → Candidate → Candidate → Bool
preferred LowestCauseId a b = ltb a.cause_id b.cause_id
preferred HighestCauseId a b = ltb b.cause_id a.cause_id
preferred ExplicitPriority a b =
    cond (ltb b.priority a.priority) true
    (cond (ltb a.priority b.priority) false (ltb a.cause_id b.cause_id))

-- the earlier time, and at equal times as the tie choice has it
unfoldable pub precedes : TieBreaker → Candidate → Candidate → Bool
precedes tie a b = cond (lt a.time b.time) true (cond (lt b.time a.time) false (preferred tie a b))

-- the better of what was found and the next candidate; on a full tie what was found
unfoldable pub earlier : TieBreaker → Option Candidate → Candidate → Option Candidate
earlier tie None c = Some c
earlier tie (Some best) c = cond (precedes tie c best) (Some c) (Some best)

unfoldable pub earliest : TieBreaker → List Candidate → Option Candidate
earliest tie cs = foldl (earlier tie) None cs
