-- Document 01, "Answer": the fields of an answer, which the sampler and every command give, and its bytes. Document 02, change 6: the
-- piece, and eight bytes more.
use Rattle.std.specs.Prelude.{Bool, true, false, cond, List, [], ◌∷◌, ◌++◌, ℕ, ◌+◌, leb, length, take, drop, replicate, Float}
use Rattle.std.specs.Float.{binary64}
use Rattle.std.specs.Float.Ieee.{to_bits}
use Rattle.hazards.specs.Floats.{z}
use Rattle.hazards.specs.Fields.{bytes_of}
use Rattle.hazards.specs.declared.answers.Answer.{Answer}

-- no event, or a refusal with its number; zero elsewhere
abbrev pub no_event : ℕ → Answer
no_event number = record {
  number = number;
  event = false;
  censored = false;
  withdrawn = false;
  cause = 0;
  delta = z;
  ticks_low = 0;
  ticks_high = 0;
  piece = 0;
}

-- an event of a cause in a piece of its rate curve, or a censored one of no_cause in piece 0; withdrawn and ticks zero
abbrev pub event_of : ℕ → Float → Bool → ℕ → Answer
event_of cause delta censored piece = record {
  number = 0;
  event = true;
  censored = censored;
  withdrawn = false;
  cause = cause;
  delta = delta;
  ticks_low = 0;
  ticks_high = 0;
  piece = piece;
}

-- how many bytes an answer has
abbrev pub answer_width : ℕ
answer_width = 40

abbrev pub flag_byte : Bool → ℕ
flag_byte flag = cond flag 1 0

-- number, event, censored and withdrawn, a byte each
unfoldable pub head_bytes : Answer → List ℕ
head_bytes a = a.number ∷ flag_byte a.event ∷ flag_byte a.censored ∷ flag_byte a.withdrawn ∷ []

-- "byte 32 holds the piece …, the other seven are zero"
abbrev pub piece_bytes : Answer → List ℕ
piece_bytes a = a.piece ∷ replicate 7 0

-- then cause u32, delta f64, ticks low u64, ticks high u64, and the piece
unfoldable pub answer_bytes : Answer → List ℕ
answer_bytes a =
    head_bytes a
    ++ (bytes_of 4 a.cause
    ++ (bytes_of 8 (to_bits binary64 a.delta)
    ++ (bytes_of 8 a.ticks_low ++ (bytes_of 8 a.ticks_high ++ piece_bytes a))))

-- a buffer with an answer at a place; one that does not lie whole in it changes nothing
unfoldable pub with_answer : List ℕ → ℕ → Answer → List ℕ
with_answer bytes at a =
    cond (leb (at + answer_width) (length bytes)) (take at bytes ++ (answer_bytes a ++ drop (at + answer_width) bytes)) bytes
