-- `execution::perform_reverted` meets its contract.
use mathlib.Core.Path.{◌∙◌}
use Rattle.engine.specs.StateRows.{shared_from, state_from}
use Rattle.engine.specs.Execution.{target, perform}
use Rattle.hazards.proofs.RefusalLaws.{number_not_zero}
use Rattle.engine.proofs.Outcomes.{refused_as}
use Rattle.engine.proofs.RevertedInPlace.{changes_one, refused_back, taken_back}
use Rattle.engine.proofs.execution.perform_reverted.Goals as goal

pub put_back-requires : goal.put_back-requires
put_back-requires c = c.near_target-clock.ensures.0

pub returns-in_err-answer : goal.returns-in_err-answer
returns-in_err-answer c =
    let a = c.args in
    let w = a.words.now in
    let f = a.floats.now in
    let did = c.perform in
    let o = perform a.stream.now a.journal_length (state_from w f) a.command.now in
    rw (refused_as c.from_residual.result c.from_residual.ensures.1)
    (refused_back w f o did.new.words did.new.floats _ c.in_err-answer.ensures.0 (number_not_zero _), tt)

pub returns : goal.returns
unfolding state_from
returns c =
    let a = c.args in
    let w = a.words.now in
    let f = a.floats.now in
    let near = c.near_target-clock in
    let keep = c.keep in
    let did = c.perform in
    let made = c.in_ok-answer.ensures in
    let back = c.put_back in
    let o = perform a.stream.now a.journal_length (state_from w f) a.command.now in
    let change =
    changes_one a.stream.now a.journal_length (state_from w f) a.command.now c.requires.0.next c.requires.1.0 c.requires.1.1
    (state_from did.new.words did.new.floats) c.in_ok-answer.answer made.1 made.0.does in (
      taken_back w f o did.new.words did.new.floats c.in_ok-answer.answer made.0 near.result
          keep.new.kept keep.new.kept_floats keep.ensures.0 keep.ensures.1 keep.ensures.2
          back.new.words back.new.floats back.ensures.0 back.ensures.1 made.1
          (target (shared_from w) a.command.now) (near.ensures.1 change.below) change,
      made.1,
    )
