-- `journal::copy_into` meets its contract: a command that fits stands over the front, one that is longer is not written.
use mathlib.Core.Path.{sym}
use Rattle.engine.proofs.PartLaws.{copied_whole, copied_nothing}
use Rattle.engine.proofs.journal.copy_into.Goals as goal

pub returns-then-command-free : goal.returns-then-command-free
returns-then-command-free c =
    let a = c.args in
    rw c.copy_over.ensures (sym (copied_whole a.free.now a.command.now c.if-command-free.true))

pub returns-else-command-free : goal.returns-else-command-free
returns-else-command-free c = let a = c.args in sym (copied_nothing a.free.now a.command.now c.if-command-free.false)
