-- Document 01, "A command comes in" and "Journal and undo": an engine, over which execution and undo are defined, what the bytes given
-- to it ask for, and what one input leaves.
use Rattle.std.specs.Prelude.{ℕ, Bool, cond, ◌&&◌, List, [], ◌∷◌, ◌++◌, length, get_or, take, ltb, leb, eqb}
use Rattle.hazards.specs.Refusals.{invalid_state}
use Rattle.engine.specs.Commands as commands
use Rattle.engine.specs.Refusals.{cut_short, no_command}

abbrev pub Bytes : Type 0
Bytes = List ℕ

-- what performing one command gives: a refusal's number, or the state after it and its answer
pub data Performed (S A : Type 0) : Type 0 where
  rejected : ℕ → Performed S A
  performed : S → A → Performed S A

-- what execution and undo are defined over; the threshold stream (document 01: tape) and the journal's length are fixed in it
pub record Engine : Type 1 where
  pub State : Type 0
  pub Answer : Type 0
  -- the state that opening leaves
  pub opened : State
  -- document 01: the standing length
  pub applied_length : State → ℕ
  -- refusal 1's test
  pub valid : State → Bool
  -- whether a replay ended in the state that was handed in
  pub same : State → State → Bool
  -- the bytes of a command by its code, 0 where it is no code
  pub width : ℕ → ℕ
  -- a command but UNDO, cut to its width
  pub perform : State → Bytes → Performed State Answer

-- what the bytes ask for: a refusal, UNDO, or a command cut to its width
pub data Asked : Type 0 where
  reject : ℕ → Asked
  undo_last : Asked
  carry_out : Bytes → Asked

-- the first byte
abbrev pub code : Bytes → ℕ
code i = get_or i 0 0

-- whether the bytes begin with a whole command, UNDO among them, by the widths of codes
abbrev pub is_whole : (ℕ → ℕ) → Bytes → Bool
is_whole width i = ltb 0 (width (code i)) && leb (width (code i)) (length i)

-- what one input is answered: a refusal's number, that the last command was reverted, or a command's answer
pub data Reply (A : Type 0) : Type 0 where
  refusal : ℕ → Reply A
  reverted : Reply A
  completed : A → Reply A

-- the commands' bytes, one after another
abbrev pub concat : List Bytes → Bytes
concat [] = []
concat (c ∷ cs) = c ++ concat cs

-- all but the last
abbrev pub init : List Bytes → List Bytes
init [] = []
init (c ∷ []) = []
init (c ∷ d ∷ cs) = c ∷ init (d ∷ cs)

module _ (E : Engine) where
  -- what one input leaves, and its answer
  pub record Outcome : Type 0 where
    pub reply : Reply E.Answer
    pub state : E.State
    pub journal : Bytes

  -- bytes past the width are ignored
  abbrev pub cut : Bytes → Bytes
  cut i = take (E.width (code i)) i

  -- refusals 1, 3, 2 and 3, in the table's order
  unfoldable pub classify : E.State → Bytes → Asked
  classify s i =
      cond (E.valid s)
      (cond (ltb 0 (length i))
      (cond (ltb 0 (E.width (code i)))
      (cond (leb (E.width (code i)) (length i)) (cond (eqb (code i) commands.undo) undo_last (carry_out (cut i))) (reject cut_short))
      (reject no_command))
      (reject cut_short))
      (reject invalid_state)

  -- a refusal changes nothing
  abbrev pub unchanged : E.State → Bytes → ℕ → Outcome
  unchanged s j n = record { reply = refusal n; state = s; journal = j }
