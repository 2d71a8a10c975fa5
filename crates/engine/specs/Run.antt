-- Document 01, "Run call and sampler": the batch run (document 01: run call). It opens an engine and answers command after command.
use Rattle.std.specs.Prelude.{Bool, true, false, cond, ◌&&◌, ◌||◌, List, [], ◌∷◌, ◌++◌, ℕ, zero, suc, ◌+◌, ◌*◌, ◌/◌, ◌%◌, eqb, leb, length, drop, replicate}
use Rattle.hazards.specs.Fields.{bytes_of}
use Rattle.hazards.specs.Answers.{answer_width, with_answer}
use Rattle.engine.specs.Commands.{width_of}
use Rattle.engine.specs.Refusals.{no_command, cut_short, answers_full, bad_buffers}
use Rattle.engine.specs.Opening.{opened_state}
use Rattle.engine.specs.Engine.{Bytes, is_whole}
use Rattle.engine.specs.Execute.{execute}
use Rattle.engine.specs.Instance.{engine_of}
use Rattle.engine.specs.Answers.{AfterInput, after}
use Rattle.engine.specs.State.{EngineState}

-- the number that a run returns, and the buffers as it leaves them
pub record Ran : Type 0 where
  pub number : ℕ
  pub journal : Bytes
  pub answers : Bytes
  pub result : Bytes

-- as the code leaves them: the number that it returns, and the buffers that it was lent
abbrev pub ran : ℕ → Bytes → Bytes → Bytes → Ran
ran number journal answers result = record { number = number; journal = journal; answers = answers; result = result }

-- the result: commands answered u64, bytes read u64
abbrev pub finished : ℕ → Bytes → Bytes → ℕ → ℕ → Ran
finished number journal answers answered read = record {
  number = number;
  journal = journal;
  answers = answers;
  result = bytes_of 8 answered ++ bytes_of 8 read;
}

-- a 2 or 3 is answered, counted and ends the run; its command adds no bytes read
abbrev pub ends_run : ℕ → Bool
ends_run number = eqb number no_command || eqb number cut_short

-- one input executed, with its answer
abbrev pub executed : Bytes → EngineState → Bytes → Bytes → AfterInput
executed stream state journal input = after stream (length journal) (execute (engine_of stream (length journal)) state journal input)

-- 17 if under an answer's bytes are left for a command, which is not executed. `turns` bounds the commands. From opening no state is
-- refused by 1, so each command that does not end the run takes a byte or more: turns above the list's length make no difference, and the
-- run ends at the list's end (proofs/RunInputs.antt: run_turns)
unfoldable pub run_from : ℕ → Bytes → EngineState → Bytes → Bytes → ℕ → ℕ → Bytes → Ran
run_from zero stream state journal answers answered read rest = finished 0 journal answers answered read
run_from (suc turns) stream state journal answers answered read [] = finished 0 journal answers answered read
run_from (suc turns) stream state journal answers answered read (b ∷ bs) =
    let place = answer_width * answered in
    let o : AfterInput = executed stream state journal (b ∷ bs) in
    let written : Bytes = with_answer answers place o.answer in
    cond (leb (place + answer_width) (length answers))
    (cond (ends_run o.answer.number) (finished o.answer.number o.journal written (answered + 1) read)
    (run_from turns stream o.state o.journal written (answered + 1) (read + width_of b) (drop (width_of b) (b ∷ bs))))
    (finished answers_full journal answers answered read)

-- 18, first of all and writing nothing, if the stream's bytes are not a multiple of 8 or the result is not 16 bytes; else from opening,
-- which fills the journal with zero
unfoldable pub run_of : Bytes → Bytes → Bytes → Bytes → Bytes → Ran
run_of commands stream journal answers result =
    cond (eqb (length stream % 8) 0 && eqb (length result) 16)
    (run_from (length commands) stream opened_state (replicate (length journal) 0) answers 0 0 commands)
    (record { number = bad_buffers; journal = journal; answers = answers; result = result })

-- the inputs that a run executes, with room for so many answers: what is left of the commands, the command to execute at its front, one
-- after another. Bytes that are no whole command, which a 2 or 3 refuses, are the last
unfoldable pub inputs_from : ℕ → Bytes → List Bytes
inputs_from zero rest = []
inputs_from (suc room) [] = []
inputs_from (suc room) (b ∷ bs) =
    (b ∷ bs) ∷ elim (is_whole width_of (b ∷ bs)) [ true ↦ inputs_from room (drop (width_of b) (b ∷ bs)) | false ↦ [] ]

abbrev pub run_inputs : Bytes → Bytes → List Bytes
run_inputs commands answers = inputs_from (length answers / answer_width) commands
