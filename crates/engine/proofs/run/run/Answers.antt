-- `run::run` meets its contract: unusable buffers are refused; else the journal is opened, and the commands run from there.
use mathlib.Core.Path.{◌≡◌, sym, ap, ◌∙◌}
use Prim.Native.Nat.{ℕ}
use borrow.Author.Tests.{not-true, not-false}
use lib.ListN.{length, replicate, length-replicate}
use Rattle.engine.proofs.RunOpening.{journal_opened, usable_result, run_unusable, run_opens}
use Rattle.engine.proofs.run.run.Goals as goal

pub returns-then-not-are_usable : goal.returns-then-not-are_usable
returns-then-not-are_usable c =
    let a = c.args in
    run_unusable a.commands.now a.stream.now a.journal.now a.answers.now a.res.now
    (sym c.are_usable.ensures ∙ not-true _ c.if-not-are_usable.true-raw)

-- ---- the journal is opened

pub run_commands-requires : goal.run_commands-requires
run_commands-requires c =
    let opened : c.clear.new.bytes ≡ replicate (length c.args.journal.now) 0 =
    c.clear.ensures ∙ journal_opened c.args.journal.now in
    let same : length c.clear.new.bytes ≡ length c.args.journal.now =
    ap length opened ∙ length-replicate (length c.args.journal.now) 0 in
    let a = c.args in (
      opened ∙ ap (λ (k : ℕ). replicate k 0) (sym same),
      usable_result a.commands.now a.stream.now a.journal.now a.answers.now a.res.now
          (sym c.are_usable.ensures ∙ not-false _ c.if-not-are_usable.false-raw),
    )

pub returns : goal.returns
returns c =
    let opened : c.clear.new.bytes ≡ replicate (length c.args.journal.now) 0 =
    c.clear.ensures ∙ journal_opened c.args.journal.now in
    let same : length c.clear.new.bytes ≡ length c.args.journal.now =
    ap length opened ∙ length-replicate (length c.args.journal.now) 0 in
    let a = c.args in
    (rw same at c.run_commands.ensures)
    ∙ run_opens a.commands.now a.stream.now a.journal.now a.answers.now a.res.now
    (sym c.are_usable.ensures ∙ not-false _ c.if-not-are_usable.false-raw)
