-- One command of a batch run: the journal and the answers after it, by its number.
use mathlib.Core.Path.{◌≡◌, refl, sym, ap, ◌∙◌}
use mathlib.Core.Bool.{Bool, true, false, cond}
use mathlib.Core.List.{◌++◌}
use Prim.Native.Nat.{ℕ, ◌+◌, ◌≤◌}
use native.Mathlib.Omega.{arith}
use borrow.Author.Tests.{eq-eqb, ne_eqb, leb-true}
use lib.Dec.{leb}
use lib.ListN.{length, take, drop, length-append, length-drop}
use lib.Seq.{paste, length-take-le}
use Rattle.hazards.specs.Answers.{answer_width, answer_bytes, no_event, with_answer}
use Rattle.hazards.proofs.AnswerBytes.{answer_bytes-length}
use Rattle.hazards.specs.declared.answers.Answer.{Answer}
use Rattle.engine.specs.Engine.{Bytes}
use Rattle.engine.specs.RunInternals.{JournalAndAnswers, journal_and_answers, answer_at}

-- an answer changes no length
pub answer-length : (answers : Bytes) (place : ℕ) (a : Answer) → length (with_answer answers place a) ≡ length answers
unfolding with_answer
answer-length answers place a = go (leb (place + answer_width) (length answers)) refl
  where
    written : Bytes
    written = take place answers ++ (answer_bytes a ++ drop (place + answer_width) answers)

    go : (b : Bool) → leb (place + answer_width) (length answers) ≡ b → length (cond b written answers) ≡ length answers
    go false e = refl
    go true e =
        let fits : place + answer_width ≤ length answers = leb-true _ _ e in
        let l₁ = length-append (take place answers) (answer_bytes a ++ drop (place + answer_width) answers) in
        let l₂ = length-append (answer_bytes a) (drop (place + answer_width) answers) in
        let t = length-take-le place answers (omega arith) in
        let d = length-drop (place + answer_width) answers in
        omega (arith, l₁, l₂, t, d, answer_bytes-length a, fits)

module _ (number : ℕ) (a : Answer) (free : ℕ) (j answers : Bytes) (place : ℕ) (c : Bytes) where
  abbrev by_number : Bool → JournalAndAnswers
  by_number b =
      cond b (journal_and_answers (paste j free c (length c)) (with_answer answers place a))
      (journal_and_answers j (with_answer answers place (no_event number)))

  pub answer_refused : (number ≡ 0 → ⊥)
      → answer_at number a free j answers place c ≡ journal_and_answers j (with_answer answers place (no_event number))
  answer_refused z = ap by_number (ne_eqb number 0 z)

  pub answer_copied : number ≡ 0
      → answer_at number a free j answers place c ≡ journal_and_answers (paste j free c (length c)) (with_answer answers place a)
  answer_copied z = ap by_number (eq-eqb number 0 z)

  -- as the code writes them
  pub refused_answered : (number ≡ 0 → ⊥) → {written : Bytes} → written ≡ with_answer answers place (no_event number)
      → journal_and_answers j written ≡ answer_at number a free j answers place c
  refused_answered z e = ap (journal_and_answers j) e ∙ sym (answer_refused z)

  pub copied_answered : number ≡ 0 → {k written : Bytes} → k ≡ paste j free c (length c) → written ≡ with_answer answers place a
      → journal_and_answers k written ≡ answer_at number a free j answers place c
  copied_answered z {k} {written} ek e =
      let both : journal_and_answers k written ≡ journal_and_answers (paste j free c (length c)) (with_answer answers place a) =
      λ i. journal_and_answers (ek i) (e i) in
      both ∙ sym (answer_copied z)
