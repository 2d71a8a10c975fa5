-- `answers::put_answer` meets its contract: the fields, written one after another, are the answer's bytes.
use mathlib.Core.Path.{sym, ◌∙◌}
use borrow.Author.Tests.{leb-true}
use native.Mathlib.Omega.{arith}
use Rattle.hazards.proofs.AnswerBytes.{answer_written, written_cut}
use Rattle.hazards.proofs.answers.put_answer.Goals as goal

pub returns-then-lies_whole : goal.returns-then-lies_whole
returns-then-lies_whole c =
    let a = c.args in
    let whole = sym c.lies_whole.ensures ∙ c.if-lies_whole.true in
    rw (
      c.put_u64-then-lies_whole-2.ensures,
      c.from.ensures,
      c.put_u64-then-lies_whole.ensures,
      c.put_u64.ensures,
      c.put_f64.ensures,
      c.put_u32-then-lies_whole.ensures,
      c.put_u32.ensures,
    )
    (answer_written a.bytes.now a.at a.answer c.head_word-head.result c.head_word-head.ensures
    (omega (arith, c.well_formed)) (leb-true _ _ whole))

pub returns-else-lies_whole : goal.returns-else-lies_whole
returns-else-lies_whole c = sym (written_cut _ _ _ (sym c.lies_whole.ensures ∙ c.if-lies_whole.false))
