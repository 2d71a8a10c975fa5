-- `execution::target` meets its contract.
use mathlib.Core.Path.{sym, ◌∙◌}
use Rattle.engine.specs.StateRows.{shared_from}
use Rattle.engine.proofs.ExecutionCases.{target_next, target_named}
use Rattle.engine.proofs.execution.target.Goals as goal

pub returns-in-Some : goal.returns-in-Some
returns-in-Some c =
    target_next (shared_from c.args.words.now) c.args.command.now (sym c.byte_at.ensures ∙ c.if-byte_at-eq-DELIVER.true) c.in-Some.ensures

pub returns-in-None : goal.returns-in-None
returns-in-None c =
    target_next (shared_from c.args.words.now) c.args.command.now (sym c.byte_at.ensures ∙ c.if-byte_at-eq-DELIVER.true) c.in-None.ensures

pub returns : goal.returns
returns c =
    c.byte_at-2.ensures ∙ target_named (shared_from c.args.words.now) c.args.command.now
    (λ e. c.if-byte_at-eq-DELIVER.false (c.byte_at.ensures ∙ e))
