-- `journal::clear` meets its contract: the whole eights are cleared, then the bytes left over, as a part of their own.
use mathlib.Core.Path.{sym, ◌∙◌}
use Prim.Native.Nat.{◌*◌, ◌/◌}
use native.Mathlib.Omega.{arith}
use Rattle.engine.proofs.JournalBytes.{zeros_joined}
use Rattle.engine.proofs.PartLaws.{cleared-front, cleared_whole}
use Rattle.engine.proofs.journal.clear.Goals as goal

pub returns : goal.returns
returns c =
    let a = c.args in
    let bytes = a.bytes.now in
    let end = c.min-end.result in
    let whole = end / 8 * 8 in
    let rest = c.fill in
    zeros_joined bytes c.clear_eights.new.bytes rest.new.self whole end (omega arith) (omega arith)
    (c.clear_eights.ensures ∙ cleared_whole bytes whole (omega arith))
    (rest.ensures.after (λ y h. h))
    ∙ sym (cleared-front bytes a.count {end = end} (omega arith))
