-- `run::answer_undone` meets its contract.
use mathlib.Core.Path.{◌≡◌, sym, ap, ◌∙◌}
use mathlib.Core.List.{List}
use Prim.Native.Nat.{ℕ, ◌+◌}
use borrow.Author.Tests.{eq-eqb, ne_eqb}
use Rattle.hazards.specs.Answers.{answer_width, no_event, with_answer}
use Rattle.hazards.specs.Refusals.{number}
use Rattle.hazards.proofs.RefusalLaws.{number_not_zero}
use Rattle.engine.proofs.run.answer_undone.Goals as goal

pub perform_reverted-requires : goal.perform_reverted-requires
perform_reverted-requires c = let p = c.requires in (p.0, p.1)

pub returns-in-Ok : goal.returns-in-Ok
returns-in-Ok c =
    let place : ℕ = c.args.place in
    let answer = c.in-Ok.answer in
    let after : List ℕ = with_answer c.args.answers.now place answer in
    let first : c.put_answer.new.bytes ≡ after = c.put_answer.ensures in
    record {
      answer = answer;
      taken = c.in-Ok.ensures.0;
      by_number = sym (eq-eqb answer.number 0 c.in-Ok.ensures.1);
      written =
          c.put_answer-in-Ok.ensures
          ∙ (ap (with_answer c.put_answer.new.bytes (place + answer_width)) c.no_event.ensures
          ∙ ap (λ (b : List ℕ). with_answer b (place + answer_width) (no_event 0)) first);
    }

pub returns-in-Err : goal.returns-in-Err
returns-in-Err c =
    record {
      answer = no_event (number c.in-Err.refusal);
      taken = c.in-Err.ensures.0;
      by_number = sym (ne_eqb (number c.in-Err.refusal) 0 (number_not_zero _));
      written = c.put_answer-in-Err.ensures ∙ ap (with_answer c.args.answers.now c.args.place) (c.no_event-in-Err.ensures ∙ ap no_event c.number.ensures);
    }
