-- Document 01, "Journal and undo": what is written over the front of a part of the journal, and the part that the applied commands fill.
-- UNDO is in Replay, the copy of an accepted command into the free part in Execute (write), the commands that stand in Sessions.
use Rattle.std.specs.Prelude.{cond, Result, Ok, Err, List, [], ◌++◌, ℕ, min, leb, length, take, drop, replicate}
use denote.Ref.{Bor}
use Rattle.hazards.specs.Refusals.{number, invalid_state}
use Rattle.hazards.specs.declared.refusals.Refusal.{Refusal}

-- a command over the first bytes of the free part; one that is longer than the free part changes nothing
unfoldable pub copied_into : List ℕ → List ℕ → List ℕ
copied_into free command = cond (leb (length command) (length free)) (command ++ drop (length command) free) free

-- zero over the first count bytes, over all where there are fewer
unfoldable pub cleared_front : List ℕ → ℕ → List ℕ
cleared_front bytes count = replicate (min count (length bytes)) 0 ++ drop (min count (length bytes)) bytes

-- a part of the journal, and the number that it is given with
pub record Part : Type 0 where
  pub bytes : List ℕ
  pub number : ℕ

abbrev pub part : List ℕ → ℕ → Part
part bytes number = record { bytes = bytes; number = number }

-- as the code gives them: a refusal is an empty part with its number
abbrev pub part_of : Result (Bor (List ℕ)) Refusal → Part
part_of (Ok bytes) = part bytes.now 0
part_of (Err refusal) = part [] (number refusal)

-- the applied commands (document 01: standing commands) as that part of the journal; a length above the journal's is refused by 1 with an
-- empty part
unfoldable pub applied_part : List ℕ → ℕ → Part
applied_part journal applied_length = cond (leb applied_length (length journal)) (part (take applied_length journal) 0) (part [] invalid_state)
