-- `journal::applied_commands` meets its contract: their length is within the journal, or not.
use mathlib.Core.Path.{sym}
use lib.Seq.{length-take-le}
use Rattle.engine.proofs.PartLaws.{applied_front, applied_past}
use Rattle.engine.proofs.journal.applied_commands.Goals as goal

pub slice_bounds-result-end : goal.slice_bounds-result-end
slice_bounds-result-end c = let a = c.args in sym (length-take-le a.applied_length a.journal.now c.if-applied_length-journal.true)

pub returns-then-applied_length-journal : goal.returns-then-applied_length-journal
returns-then-applied_length-journal c = let a = c.args in sym (applied_front a.journal.now a.applied_length c.if-applied_length-journal.true)

pub returns-else-applied_length-journal : goal.returns-else-applied_length-journal
returns-else-applied_length-journal c = let a = c.args in sym (applied_past a.journal.now a.applied_length c.if-applied_length-journal.false)
