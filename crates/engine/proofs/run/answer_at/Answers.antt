-- `run::answer_at` meets its contract.
use mathlib.Core.Path.{refl, ◌∙◌, ap}
use Prim.Native.Nat.{◌+◌, ◌≤◌}
use native.Mathlib.Omega.{arith}
use lib.ListN.{length}
use Rattle.hazards.specs.Answers.{no_event, with_answer}
use Rattle.hazards.specs.Refusals.{number}
use Rattle.hazards.proofs.RefusalLaws.{number_not_zero}
use Rattle.engine.proofs.ExecuteLaws.{copied_journal}
use Rattle.engine.proofs.RunAnswers.{refused_answered, copied_answered}
use Rattle.engine.proofs.run.answer_at.Goals as goal

pub slice_bounds-copy_into-count : goal.slice_bounds-copy_into-count
slice_bounds-copy_into-count c =
    let room : c.args.free + length c.args.command.now ≤ length c.args.journal.now =
    (rw c.in-Ok.is at c.requires) refl in
    omega (arith, room)

pub slice_bounds-copy_into-start : goal.slice_bounds-copy_into-start
slice_bounds-copy_into-start c =
    let room : c.args.free + length c.args.command.now ≤ length c.args.journal.now =
    (rw c.in-Ok.is at c.requires) refl in
    omega (arith, room)

pub returns-in-Ok : goal.returns-in-Ok
returns-in-Ok c =
    let room : c.args.free + length c.args.command.now ≤ length c.args.journal.now =
    (rw c.in-Ok.is at c.requires) refl in
    let a = c.args in
    rw c.in-Ok.is
    (copied_answered 0 c.in-Ok.answer a.free a.journal.now a.answers.now a.place a.command.now refl
    (copied_journal a.journal.now c.copy_into.new.free a.command.now a.free room c.copy_into.ensures)
    c.put_answer.ensures)

pub returns-in-Err : goal.returns-in-Err
returns-in-Err c =
    let a = c.args in
    rw c.in-Err.is
    (refused_answered (number c.in-Err.refusal) _ a.free a.journal.now a.answers.now a.place a.command.now (number_not_zero _)
    (c.put_answer-in-Err.ensures
    ∙ ap (with_answer a.answers.now a.place) (c.no_event.ensures ∙ ap no_event c.number.ensures)))
