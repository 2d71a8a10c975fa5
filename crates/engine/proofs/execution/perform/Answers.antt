-- `execution::perform` meets its contract, by the command's code.
use mathlib.Core.Path.{sym, ◌∙◌}
use native.Mathlib.Omega.{arith}
use Rattle.engine.specs.StateRows.{shared_from}
use Rattle.engine.specs.declared.commands.Command.TheVariants.{Create, Set, Remove, Reschedule, Pause, Resume, Deliver}
use Rattle.engine.proofs.CommandCodes.{decoded}
use Rattle.engine.proofs.ExecutionCases.{on_create, on-set, on_remove, on_reschedule, on_pause, on_resume, on_deliver}
use Rattle.engine.proofs.CommandsInPlace.{performs_as, by_name, by_delivery}
use Rattle.engine.proofs.execution.perform.Goals as goal

pub returns-in-Create : goal.returns-in-Create
returns-in-Create c =
    let a = c.args in
    let done = c.perform_create.ensures in
    let code = sym (decoded _ Create c.try_from.ensures c.in-Create.ensures ∙ c.byte_at.ensures) in (
      performs_as done.0
          (by_name a.words.now a.floats.now a.stream.now a.journal_length a.command.now (λ d. omega (arith, code, d))
          (on_create a.stream.now a.journal_length _ (shared_from a.words.now) a.command.now code)),
      done.1,
    )

pub returns-in-Set : goal.returns-in-Set
returns-in-Set c =
    let a = c.args in
    let done = c.perform_set.ensures in
    let code = sym (decoded _ Set c.try_from.ensures c.in-Set.ensures ∙ c.byte_at.ensures) in (
      performs_as done.0
          (by_name a.words.now a.floats.now a.stream.now a.journal_length a.command.now (λ d. omega (arith, code, d))
          (on-set a.stream.now a.journal_length _ (shared_from a.words.now) a.command.now code)),
      done.1,
    )

pub returns-in-Remove : goal.returns-in-Remove
returns-in-Remove c =
    let a = c.args in
    let done = c.perform_remove.ensures in
    let code = sym (decoded _ Remove c.try_from.ensures c.in-Remove.ensures ∙ c.byte_at.ensures) in (
      performs_as done.0
          (by_name a.words.now a.floats.now a.stream.now a.journal_length a.command.now (λ d. omega (arith, code, d))
          (on_remove a.stream.now a.journal_length _ (shared_from a.words.now) a.command.now code)),
      done.1,
    )

pub returns-in-Reschedule : goal.returns-in-Reschedule
returns-in-Reschedule c =
    let a = c.args in
    let done = c.perform_reschedule.ensures in
    let code = sym (decoded _ Reschedule c.try_from.ensures c.in-Reschedule.ensures ∙ c.byte_at.ensures) in (
      performs_as done.0
          (by_name a.words.now a.floats.now a.stream.now a.journal_length a.command.now (λ d. omega (arith, code, d))
          (on_reschedule a.stream.now a.journal_length _ (shared_from a.words.now) a.command.now code)),
      done.1,
    )

pub returns-in-Pause : goal.returns-in-Pause
returns-in-Pause c =
    let a = c.args in
    let done = c.perform_pause.ensures in
    let code = sym (decoded _ Pause c.try_from.ensures c.in-Pause.ensures ∙ c.byte_at.ensures) in (
      performs_as done.0
          (by_name a.words.now a.floats.now a.stream.now a.journal_length a.command.now (λ d. omega (arith, code, d))
          (on_pause a.stream.now a.journal_length _ (shared_from a.words.now) a.command.now code)),
      done.1,
    )

pub returns-in-Resume : goal.returns-in-Resume
returns-in-Resume c =
    let a = c.args in
    let done = c.perform_resume.ensures in
    let code = sym (decoded _ Resume c.try_from.ensures c.in-Resume.ensures ∙ c.byte_at.ensures) in (
      performs_as done.0
          (by_name a.words.now a.floats.now a.stream.now a.journal_length a.command.now (λ d. omega (arith, code, d))
          (on_resume a.stream.now a.journal_length _ (shared_from a.words.now) a.command.now code)),
      done.1,
    )

pub returns-in-Deliver : goal.returns-in-Deliver
returns-in-Deliver c =
    let a = c.args in
    let done = c.perform_deliver.ensures in
    let code = sym (decoded _ Deliver c.try_from.ensures c.in-Deliver.ensures ∙ c.byte_at.ensures) in (
      performs_as done.0
          (by_delivery a.words.now a.floats.now a.stream.now a.journal_length a.command.now code
          (on_deliver a.stream.now a.journal_length _ (shared_from a.words.now) a.command.now code)),
      done.1,
    )
