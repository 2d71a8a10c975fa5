-- `execution::need_room` meets its contract.
use mathlib.Core.Path.{sym, ◌∙◌, ap}
use mathlib.Core.Bool.{Bool, cond}
use borrow.Author.Tests.{le-leb, lt-leb}
use Rattle.engine.specs.Refusals.{journal_full}
use Rattle.engine.specs.StateRows.{shared_of, shared_from}
use Rattle.engine.proofs.ExecutionCases.{room_over, room_left}
use Rattle.engine.proofs.execution.need_room.Goals as goal

pub returns-then-applied-journal_length : goal.returns-then-applied-journal_length
unfolding shared_from shared_of
returns-then-applied-journal_length c =
    let a = c.args in
    ap (λ (b : Bool). cond b 0 journal_full)
    (sym (room_over (shared_from a.words.now).applied_length a.width a.journal_length c.if-applied-journal_length.true))

pub returns-then-width-journal_length : goal.returns-then-width-journal_length
unfolding shared_from shared_of
returns-then-width-journal_length c =
    let a = c.args in
    ap (λ (b : Bool). cond b 0 journal_full)
    (sym (lt-leb _ _ c.if-width-journal_length.true)
    ∙ room_left (shared_from a.words.now).applied_length a.width a.journal_length c.if-applied-journal_length.false)

pub returns : goal.returns
unfolding shared_from shared_of
returns c =
    let a = c.args in
    ap (λ (b : Bool). cond b 0 journal_full)
    (sym (le-leb _ _ c.if-width-journal_length.false)
    ∙ room_left (shared_from a.words.now).applied_length a.width a.journal_length c.if-applied-journal_length.false)
