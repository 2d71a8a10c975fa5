-- `execute::perform_command` meets its contract.
use native.Mathlib.Omega.{arith}
use lib.ListN.{length}
use Rattle.engine.specs.StateRows.{shared_of, shared_from, state_from}
use Rattle.engine.proofs.ExecuteLaws.{Within, valid_within, copied_journal}
use Rattle.engine.proofs.ExecutedInPlace.{command_refused, command_applied}
use Rattle.engine.proofs.PerformedInPlace.{performs_fits}
use Rattle.engine.proofs.ReadyStates.{valid_ready}
use Rattle.hazards.proofs.RefusalLaws.{number_not_zero}
use Rattle.engine.proofs.Outcomes.{refused_as}
use Rattle.engine.proofs.execute.perform_command.Goals as goal

pub perform-requires : goal.perform-requires
perform-requires c =
    let a = c.args in
    let p = c.requires in (
      valid_ready a.stream.now (length a.journal.now) a.words.now a.floats.now (record { words = omega arith; floats = omega arith })
          (omega (arith, c.well_formed.1.1.1.0.0)) p.0,
      p.1,
    )

pub slice_bounds-copy_into-count : goal.slice_bounds-copy_into-count
unfolding shared_from shared_of state_from
slice_bounds-copy_into-count c =
    let within : Within (length c.args.journal.now) (shared_from c.args.words.now) =
    let a = c.args in
    valid_within a.stream.now (length a.journal.now) (state_from a.words.now a.floats.now) c.requires.0 in
    within.applied

pub slice_bounds-copy_into-start : goal.slice_bounds-copy_into-start
unfolding shared_from shared_of state_from
slice_bounds-copy_into-start c =
    let within : Within (length c.args.journal.now) (shared_from c.args.words.now) =
    let a = c.args in
    valid_within a.stream.now (length a.journal.now) (state_from a.words.now a.floats.now) c.requires.0 in
    omega (arith, within.applied)

pub returns : goal.returns
unfolding shared_from shared_of
returns c =
    let a = c.args in
    let w = a.words.now in
    let f = a.floats.now in
    let j = a.journal.now in
    let command = a.command.now in
    let did = c.perform in
    let made = c.in_ok-answer.ensures in
    let room =
    performs_fits a.stream.now (length j) w f command did.new.words did.new.floats c.in_ok-answer.answer made.0 made.1 in
    command_applied a.stream.now w f j command did.new.words did.new.floats c.in_ok-answer.answer made.0 _ made.1
    (copied_journal j c.copy_into.new.free command (shared_from w).applied_length room
    c.copy_into.ensures)

pub returns-in_err-answer : goal.returns-in_err-answer
returns-in_err-answer c =
    let a = c.args in
    let did = c.perform in
    rw (refused_as c.from_residual.result c.from_residual.ensures.1)
    (command_refused a.stream.now a.words.now a.floats.now a.journal.now a.command.now did.new.words did.new.floats _
    c.in_err-answer.ensures.0 (number_not_zero _))
