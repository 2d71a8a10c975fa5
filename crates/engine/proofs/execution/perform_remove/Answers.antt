-- `execution::perform_remove` meets its contract: refused, without room, and done.
use mathlib.Core.Path.{refl, ◌∙◌, ap}
use Prim.Native.Nat.{◌<◌, ◌^◌}
use native.Mathlib.Omega.{arith}
use lib.ListN.{length}
use Rattle.hazards.specs.Fields.{field_at}
use Rattle.hazards.specs.declared.answers.Answer.{Answer}
use Rattle.clocks.specs.Clocks.{remove_channel}
use Rattle.engine.specs.Commands as commands
use Rattle.engine.specs.Commands.{clock_of, cause_faults}
use Rattle.engine.specs.State.{SharedState, slot_at, with_applied_bytes}
use Rattle.engine.specs.Refusals.{journal_full}
use Rattle.engine.specs.Execution.{done, holding, perform_remove}
use Rattle.engine.specs.StateRows.{shared_from, state_from, LeavesClock}
use Rattle.engine.proofs.AcceptedFields.{cause_accepted}
use Rattle.engine.proofs.ExecutionCases.{refusal_of, remove_on, full, room, there_clean, applied_fits}
use Rattle.engine.proofs.CommandsInPlace.{turned_away, refused_later, carried_out, shared_as}
use Rattle.hazards.proofs.RefusalLaws.{number_not_zero}
use Rattle.engine.proofs.TriedInPlace.{has_room, refused_tries, refused_room}
use Rattle.engine.proofs.execution.perform_remove.Goals as goal

pub named_clock-requires : goal.named_clock-requires
named_clock-requires c = λ h. cause_accepted c.args.command.now (rw c.cause_faults.ensures at h)

pub returns-in_err-clock : goal.returns-in_err-clock
unfolding perform_remove
returns-in_err-clock c =
    let a = c.args in
    let w = a.words.now in
    let f = a.floats.now in
    let here = (slot_at (state_from w f) (clock_of a.command.now)).present in
    let e = c.in_err-clock.ensures.0 f ∙ ap (refusal_of here) c.cause_faults.ensures in
    refused_tries _ _ c.from_residual.ensures.1
    (turned_away w f a.command.now (cause_faults a.command.now) (remove_on a.journal_length (shared_from w) a.command.now) e
    (number_not_zero _) refl)

pub returns-in_err-need_room : goal.returns-in_err-need_room
unfolding perform_remove
returns-in_err-need_room c =
    let a = c.args in
    let w = a.words.now in
    let f = a.floats.now in
    let here = (slot_at (state_from w f) (clock_of a.command.now)).present in
    let e = c.in_ok-clock.ensures.0 f ∙ ap (refusal_of here) c.cause_faults.ensures in
    refused_room _ _ c.from_residual-in_err-need_room.ensures.1 _ c.in_err-need_room.ensures
    (λ l. refused_later w f a.command.now (cause_faults a.command.now) (remove_on a.journal_length (shared_from w) a.command.now) e
    refl journal_full (λ z. omega arith)
    (full a.journal_length (shared_from w) a.command.now _ l)
    refl)

pub remove_in-requires : goal.remove_in-requires
remove_in-requires c =
    let a = c.args in
    let here = slot_at (state_from a.words.now a.floats.now) (clock_of a.command.now) in
    let e = c.in_ok-clock.ensures.0 a.floats.now ∙ ap (refusal_of here.present) c.cause_faults.ensures in
    let clean =
    there_clean (cause_faults a.command.now) here (remove_on a.journal_length (shared_from a.words.now) a.command.now) e
    refl in
    rw c.in_ok-clock.ensures.1 (cause_accepted a.command.now clean)

pub count_applied-requires : goal.count_applied-requires
count_applied-requires c =
    let call = c.remove_in in
    let a = c.args in
    let h : a.journal_length < 2 ^ 64 = omega (arith, c.well_formed.1.1.0.1) in
    applied_fits (length a.command.now) a.journal_length
    (ap (λ (p : SharedState). p.applied_length) call.ensures.shared)
    (has_room _ c.in_ok-need_room.ensures) h

pub returns : goal.returns
unfolding perform_remove
returns c =
    let call = c.remove_in in
    let count = c.count_applied in
    let a = c.args in
    let w = a.words.now in
    let f = a.floats.now in
    let b = a.command.now in
    let here = slot_at (state_from w f) (clock_of b) in
    let e = c.in_ok-clock.ensures.0 f ∙ ap (refusal_of here.present) c.cause_faults.ensures in
    let fit = has_room _ c.in_ok-need_room.ensures in
    let cause = field_at 4 b commands.cause_field in
    let left : LeavesClock w f (clock_of b) call.new.words call.new.floats (remove_channel here.clock cause) =
    rw (c.u32_at-cause.ensures, c.in_ok-clock.ensures.1) at call.ensures in
    let zero = ap (λ (x : Answer). x.number) c.no_event.ensures in (
      carried_out w f b (cause_faults b) (remove_on a.journal_length (shared_from w) b) e refl
          (ap (done (holding (remove_channel here.clock (field_at 4 b commands.cause_field))) (with_applied_bytes (length b) (shared_from w)))
          c.no_event.ensures
          ∙ room a.journal_length (shared_from w) b _ fit) zero left
          (omega arith)
          (shared_as count.ensures (ap (with_applied_bytes (length b)) call.ensures.shared))
          (omega arith),
      zero,
    )
