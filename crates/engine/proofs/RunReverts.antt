-- An accepted command of a batch run that the next input, an UNDO, reverts: after both, what is left of the run goes on from the state
-- and the journal before it.
use mathlib.Core.Path.{◌≡◌, refl, sym, ap, ◌∙◌}
use mathlib.Core.Bool.{Bool, true, false}
use Prim.Native.Nat.{ℕ, ◌+◌, ◌*◌, ◌<◌, ◌≤◌}
use native.Mathlib.Omega.{arith}
use borrow.Author.Tests.{eqb-true, leb-true, leb-false}
use lib.Dec.{eqb, leb}
use lib.ListN.{length, drop, length-drop, drop_of_length-le}
use Rattle.hazards.specs.Answers.{answer_width, no_event, with_answer}
use Rattle.hazards.specs.declared.answers.Answer.{Answer}
use Rattle.hazards.proofs.Cases.{both_true}
use Rattle.engine.specs.Commands as commands
use Rattle.engine.specs.Commands.{width_of}
use Rattle.engine.specs.Engine.{Bytes, code, performed}
use Rattle.engine.specs.Replay.{undo}
use Rattle.engine.specs.Execution.{perform}
use Rattle.engine.specs.Answers.{after}
use Rattle.engine.specs.Instance.{engine_of}
use Rattle.engine.specs.Run.{Ran}
use Rattle.engine.specs.RunInternals.{is_undone, both_answered}
use Rattle.engine.specs.State.{EngineState}
use Rattle.engine.proofs.JournalBytes.{rest_of, part_of, part-all}
use Rattle.engine.proofs.RunAnswers.{answer-length}
use Rattle.engine.proofs.RunStates.{reached_back}
use Rattle.engine.proofs.RunTurns.{leaving, Running, Input, pasted, pasted_length, input_performs, next_performed, next_undo}

-- past the end there is no code
code_within : (bytes : Bytes) (at : ℕ) → code (drop at bytes) ≡ commands.undo → at < length bytes
code_within bytes at e = go (leb (length bytes) at) refl
  where
    go : (b : Bool) → leb (length bytes) at ≡ b → at < length bytes
    go true l =
        let none : code (drop at bytes) ≡ 0 = ap code (drop_of_length-le bytes (leb-true (length bytes) at l)) in
        absurd (omega (arith, none, e))
    go false l = leb-false (length bytes) at l

abbrev two_answers : ℕ
two_answers = answer_width + answer_width

-- the next input is an UNDO whose answer has room
module _ (bytes : Bytes) (at room place : ℕ) (yes : is_undone (rest_of bytes at) room place ≡ true) where
  both : (eqb (code (rest_of bytes at)) commands.undo ≡ true) × (leb (place + two_answers) room ≡ true)
  both = both_true (eqb (code (rest_of bytes at)) commands.undo) (leb (place + two_answers) room) yes

  undone_code : code (drop at bytes) ≡ commands.undo
  undone_code = ap code (sym (part-all bytes at)) ∙ eqb-true (code (rest_of bytes at)) commands.undo both.0

  pub undone_within : at < length bytes
  undone_within = code_within bytes at undone_code

  pub undone_room : place + two_answers ≤ room
  undone_room = leb-true (place + two_answers) room both.1

undo_wide : (i : Bytes) → code i ≡ commands.undo → width_of (code i) ≡ 1
unfolding width_of
undo_wide i e = ap width_of e

module _ (bytes stream : Bytes) (n size : ℕ) (all : Ran) {j answers : Bytes} {s : EngineState} {count at : ℕ}
    (x : Input bytes stream n size all j answers s count at) (w : ℕ) (ew : w ≡ width_of (code (drop at bytes)))
    (u : code (drop at bytes) ≡ commands.undo → ⊥) (t : EngineState) (a : Answer)
    (d : perform stream n s (part_of bytes at w) ≡ performed t a)
    (yes : is_undone (rest_of bytes (at + w)) (length answers) (answer_width * count) ≡ true) where
  abbrev taken : Bytes
  taken = pasted bytes stream n size all x w ew u t a d

  abbrev first : Bytes
  first = with_answer answers (answer_width * count) a

  first-length : length first ≡ length answers
  first-length = answer-length answers (answer_width * count) a

  abbrev there : code (drop (at + w) bytes) ≡ commands.undo
  there = undone_code bytes (at + w) (length answers) (answer_width * count) yes

  undo_input : Input bytes stream n size all taken first t (count + 1) (at + w)
  undo_input =
      let within = undone_within bytes (at + w) (length answers) (answer_width * count) yes in
      let space = undone_room bytes (at + w) (length answers) (answer_width * count) yes in
      let one = undo_wide (drop (at + w) bytes) there in
      let l = length-drop (at + w) bytes in
      record {
        running =
            next_performed bytes stream n size all x w ew u t a d refl refl (first-length ∙ x.running.same_answers);
        more = within;
        space = omega (arith, first-length, space);
        wide = omega (arith, one);
        long = omega (arith, one, l, within);
      }

  undone : leaving (no_event 0) s j ≡ after stream (length taken) (undo (engine_of stream (length taken)) t taken)
  undone =
      sym
      (ap (λ (m : ℕ). after stream m (undo (engine_of stream m) t taken)) (pasted_length bytes stream n size all x w ew u t a d)
      ∙ ap (after stream n)
      (reached_back stream n s j x.running.reached (drop at bytes) a t taken
      (input_performs bytes stream n size all x w ew u t a d)))

  pub next_undone : {written : Bytes} → written ≡ both_answered a answers (answer_width * count) → length written ≡ size
      → Running bytes stream n size all j written s (count + 1 + 1) (at + w + 1)
  next_undone q lw =
      let place : answer_width * count + answer_width ≡ answer_width * (count + 1) = omega arith in
      next_undo bytes stream n size all undo_input 1 (sym (undo_wide (drop (at + w) bytes) there)) there (no_event 0) s undone
      (q ∙ ap (λ (k : ℕ). with_answer first k (no_event 0)) place) x.running.same_journal lw
