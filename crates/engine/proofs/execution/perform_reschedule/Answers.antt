-- `execution::perform_reschedule` meets its contract: refused, without room, and done.
use mathlib.Core.Path.{◌≡◌, refl, ◌∙◌, ap}
use Prim.Native.Nat.{◌<◌, ◌^◌}
use native.Mathlib.Omega.{arith}
use lib.ListN.{length}
use Rattle.hazards.specs.declared.answers.Answer.{Answer}
use Rattle.clocks.specs.Scheduling as scheduling
use Rattle.clocks.specs.RowsInternals.{queue_change, change_from}
use Rattle.clocks.proofs.CensorLaws.{reschedule_same}
use Rattle.engine.specs.Commands.{clock_of, now_of, censor_of, reschedule_faults}
use Rattle.engine.specs.State.{SharedState, slot_at}
use Rattle.engine.specs.Execution.{perform_reschedule}
use Rattle.engine.specs.StateRows.{shared_from, state_from, LeavesClock}
use Rattle.engine.proofs.AcceptedFields.{reschedule_accepted}
use Rattle.engine.proofs.ExecutionCases.{refusal_of, method_on, there_clean, applied_fits}
use Rattle.engine.proofs.RescheduledInPlace.{outcome, reschedule_away, reschedule_no_room, reschedule_made}
use Rattle.hazards.proofs.RefusalLaws.{number_not_zero}
use Rattle.engine.proofs.TriedInPlace.{has_room, refused_tries, refused_room}
use Rattle.engine.proofs.execution.perform_reschedule.Goals as goal

pub named_clock-requires : goal.named_clock-requires
named_clock-requires c = λ h. (reschedule_accepted c.args.command.now (rw c.reschedule_faults.ensures at h)).clock

pub returns-in_err-clock : goal.returns-in_err-clock
unfolding perform_reschedule
returns-in_err-clock c =
    let a = c.args in
    let w = a.words.now in
    let f = a.floats.now in
    let here = slot_at (state_from w f) (clock_of a.command.now) in
    let e = c.in_err-clock.ensures.0 f ∙ ap (refusal_of here.present) c.reschedule_faults.ensures in
    refused_tries _ _ c.from_residual.ensures.1
    (reschedule_away w f a.journal_length a.command.now scheduling.reschedule e (number_not_zero _) refl)

pub returns-in_err-need_room : goal.returns-in_err-need_room
unfolding perform_reschedule
returns-in_err-need_room c =
    let a = c.args in
    let w = a.words.now in
    let f = a.floats.now in
    let here = slot_at (state_from w f) (clock_of a.command.now) in
    let e = c.in_ok-clock.ensures.0 f ∙ ap (refusal_of here.present) c.reschedule_faults.ensures in
    refused_room _ _ c.from_residual-in_err-need_room.ensures.1 _ c.in_err-need_room.ensures
    (λ l. reschedule_no_room w f a.journal_length a.command.now scheduling.reschedule e refl
    l refl)

pub reschedule_in-change-requires : goal.reschedule_in-change-requires
reschedule_in-change-requires c =
    let a = c.args in
    let w = a.words.now in
    let f = a.floats.now in
    let b = a.command.now in
    let here = slot_at (state_from w f) (clock_of b) in
    let e = c.in_ok-clock.ensures.0 f ∙ ap (refusal_of here.present) c.reschedule_faults.ensures in
    let clean =
    there_clean (reschedule_faults b) here (method_on a.journal_length here (shared_from w) b scheduling.reschedule) e refl in
    rw c.in_ok-clock.ensures.1 (reschedule_accepted b clean).clock

pub requeue-requires : goal.requeue-requires
requeue-requires c =
    let call = c.reschedule_in-change in
    let a = c.args in
    let h : a.journal_length < 2 ^ 64 = omega (arith, c.well_formed.1.1.0.1) in (
      rw call.ensures.0.shared c.requires.counts,
      applied_fits (length a.command.now) a.journal_length
          (ap (λ (p : SharedState). p.applied_length) call.ensures.0.shared)
          (has_room _ c.in_ok-need_room.ensures) h,
    )

pub returns : goal.returns
unfolding perform_reschedule
returns c =
    let then = c.requeue in
    let call = c.reschedule_in-change in
    let a = c.args in
    let w = a.words.now in
    let f = a.floats.now in
    let b = a.command.now in
    let n = a.journal_length in
    let here = slot_at (state_from w f) (clock_of b) in
    let r = outcome w f n b scheduling.reschedule in
    let e = c.in_ok-clock.ensures.0 f ∙ ap (refusal_of here.present) c.reschedule_faults.ensures in
    let fit = has_room _ c.in_ok-need_room.ensures in
    let left : LeavesClock w f (clock_of b) call.new.words call.new.floats r.clock × (change_from call.result ≡ queue_change r) =
    rw (
      c.censor_time-censor.ensures,
      c.f64_at-time.ensures,
      c.in_ok-clock.ensures.1,
      reschedule_same (now_of b) (censor_of b) here.clock (shared_from w).request_count,
    ) at call.ensures in
    let sized : length call.new.words ≡ 177 = omega arith in (
      reschedule_made w f n b scheduling.reschedule e refl fit left.0 sized left.1 then.ensures.0 (omega arith) then.ensures.1,
      ap (λ (x : Answer). x.number) then.ensures.1,
    )
