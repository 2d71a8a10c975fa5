-- A command of a batch run, performed on the rows: what is left of the run goes on from what the rows are read as.
use mathlib.Core.Path.{◌≡◌, sym, ap, ◌∙◌, subst}
use mathlib.Core.Bool.{Bool, true, false, cond}
use Prim.Native.Nat.{ℕ, ◌+◌, ◌*◌}
use borrow.Author.Tests.{eqb-true, eqb-false}
use lib.Dec.{eqb}
use lib.ListN.{length, drop}
use lib.Seq.{paste}
use Rattle.hazards.specs.Answers.{answer_width, no_event, with_answer}
use Rattle.hazards.specs.declared.answers.Answer.{Answer}
use Rattle.hazards.proofs.Cases.{by_test}
use Rattle.clocks.specs.Layout.{WordRows, FloatRows}
use Rattle.engine.specs.Commands as commands
use Rattle.engine.specs.Commands.{width_of}
use Rattle.engine.specs.Engine.{Bytes, code, rejected, performed}
use Rattle.engine.specs.Execution.{perform}
use Rattle.engine.specs.StateRows.{shared_from, state_from}
use Rattle.engine.specs.Run.{Ran}
use Rattle.engine.specs.RunInternals.{JournalAndAnswers, is_undone, both_answered, AnswersCommand, AnswersUndone}
use Rattle.engine.specs.State.{EngineState}
use Rattle.engine.proofs.JournalBytes.{rest_of, part_of}
use Rattle.engine.proofs.PerformedInPlace.{is_performed, is_rejected, shared_read}
use Rattle.engine.proofs.RunAnswers.{answer_refused, answer_copied}
use Rattle.engine.proofs.RunTurns.{Running, Input, next_refused, next_performed}
use Rattle.engine.proofs.RunReverts.{next_undone}
use Rattle.engine.proofs.RunUndos.{Deferred, goes_on_in}

module _ (bytes stream : Bytes) (n size : ℕ) (all : Ran) {j answers : Bytes} (w : WordRows) (f : FloatRows) {count at : ℕ}
    (x : Input bytes stream n size all j answers (state_from w f) count at) (wide : ℕ) (ew : wide ≡ width_of (code (drop at bytes)))
    (u : code (drop at bytes) ≡ commands.undo → ⊥) where
  abbrev s : EngineState
  s = state_from w f

  abbrev c : Bytes
  c = part_of bytes at wide

  -- refused: nothing is changed, and its number is answered
  refused_turn : (number : ℕ) → perform stream n s c ≡ rejected number → {written : Bytes}
      → written ≡ with_answer answers (answer_width * count) (no_event number) → length written ≡ size
      → Running bytes stream n size all j written s (count + 1) (at + wide)
  refused_turn number d q lw = next_refused bytes stream n size all x wide ew u number d q lw

  module _ {w' : WordRows} {f' : FloatRows} {k written : Bytes} {applied : ℕ}
      (left : AnswersCommand stream w f j answers (answer_width * count) c w' f' k written applied) (lw : length written ≡ size) where
    abbrev a : Answer
    a = left.answer

    did : (m : ℕ) → length j ≡ m → perform stream (length j) s c ≡ perform stream m s c
    did m e = ap (λ (l : ℕ). perform stream l s c) e

    applied_turn : a.number ≡ 0 → Running bytes stream n size all k written (state_from w' f') (count + 1) (at + wide)
    applied_turn z =
        let g = left.written ∙ answer_copied a.number a (shared_from w).applied_length j answers (answer_width * count) c z in
        let d : perform stream n s c ≡ performed (state_from w' f') a =
        sym (did n x.running.same_journal) ∙ is_performed (state_from w' f') a left.performs.does z in
        let free : (shared_from w).applied_length ≡ s.shared.applied_length = rw (shared_read w f) in
        let ek : k ≡ paste j s.shared.applied_length c (length c) =
        ap (λ (b : JournalAndAnswers). b.journal) g ∙ ap (λ (l : ℕ). paste j l c (length c)) free in
        next_performed bytes stream n size all x wide ew u (state_from w' f') a d ek (ap (λ (b : JournalAndAnswers). b.answers) g) lw

    unapplied_turn : (a.number ≡ 0 → ⊥) → Running bytes stream n size all k written (state_from w' f') (count + 1) (at + wide)
    unapplied_turn z =
        let g = left.written ∙ answer_refused a.number a (shared_from w).applied_length j answers (answer_width * count) c z in
        let d : perform stream n s c ≡ rejected a.number =
        sym (did n x.running.same_journal) ∙ is_rejected (state_from w' f') a left.performs.does z in
        let ek : k ≡ j = ap (λ (b : JournalAndAnswers). b.journal) g in
        let kept = left.performs.keeps z in
        let same : state_from w' f' ≡ s = λ i. state_from (kept.0 i) (kept.1 i) in
        subst (λ (b : Bytes). Running bytes stream n size all b written (state_from w' f') (count + 1) (at + wide)) (sym ek)
        (subst (λ (t : EngineState). Running bytes stream n size all j written t (count + 1) (at + wide)) (sym same)
        (refused_turn a.number d (ap (λ (b : JournalAndAnswers). b.answers) g) lw))

    pub goes_on_command : (stale : Bool)
        → Deferred bytes stream n size all k written (state_from w' f') applied stale (count + 1) (at + wide)
    goes_on_command stale =
        goes_on_in bytes stream n size all
        (by_test (eqb a.number 0) (λ e. applied_turn (eqb-true _ _ e)) (λ e. unapplied_turn (eqb-false _ _ e)))
        applied (left.counted ∙ rw (shared_read w' f')) stale

  -- taken back by the UNDO after it, or refused
  module _ {w' : WordRows} {f' : FloatRows} {written : Bytes} {accepted : Bool}
      (left : AnswersUndone stream n w f answers (answer_width * count) c w' f' written accepted) (lw : length written ≡ size)
      (applied : ℕ) (counted : applied ≡ s.shared.applied_length) (stale : Bool) where
    abbrev b : Answer
    b = left.answer

    by_accepted : (t : Bool) → accepted ≡ t
        → written ≡ cond t (both_answered b answers (answer_width * count)) (with_answer answers (answer_width * count) b)
    by_accepted t e =
        left.written
        ∙ ap (λ (d : Bool). cond d (both_answered b answers (answer_width * count)) (with_answer answers (answer_width * count) b)) e

    as_it_was : {places read : ℕ} → Running bytes stream n size all j written s places read
        → Deferred bytes stream n size all j written (state_from w' f') applied stale places read
    as_it_was r = record { current = s; running = r; fresh = λ e. left.taken.same; counted = counted }

    pub goes_on_undone : accepted ≡ true → is_undone (rest_of bytes (at + wide)) (length answers) (answer_width * count) ≡ true
        → Deferred bytes stream n size all j written (state_from w' f') applied stale (count + 1 + 1) (at + wide + 1)
    goes_on_undone e next =
        let z : b.number ≡ 0 = eqb-true b.number 0 (sym left.by_number ∙ e) in
        as_it_was
        (next_undone bytes stream n size all x wide ew u left.taken.taken b (is_performed left.taken.taken b left.taken.does z)
        next (by_accepted true e) lw)

    pub goes_on_refused : accepted ≡ false
        → Deferred bytes stream n size all j written (state_from w' f') applied stale (count + 1) (at + wide)
    goes_on_refused e =
        let z : b.number ≡ 0 → ⊥ = eqb-false b.number 0 (sym left.by_number ∙ e) in
        as_it_was
        (refused_turn b.number (is_rejected left.taken.taken b left.taken.does z)
        (by_accepted false e ∙ ap (with_answer answers (answer_width * count)) (left.taken.refused z)) lw)
