-- `execution::perform_pause` meets its contract: refused, without room, and done.
use mathlib.Core.Path.{◌≡◌, refl, ◌∙◌, ap, ap₂}
use Prim.Native.Nat.{◌<◌, ◌^◌}
use native.Mathlib.Omega.{arith}
use lib.ListN.{length}
use Rattle.hazards.specs.declared.answers.Answer.{Answer}
use Rattle.clocks.specs.Scheduling as scheduling
use Rattle.engine.specs.Commands.{clock_of, now_of, pause_faults}
use Rattle.engine.specs.State.{SharedState, slot_at, with_applied_bytes}
use Rattle.engine.specs.Refusals.{journal_full}
use Rattle.engine.specs.Execution.{is_withdrawn, withdraw, perform_pause}
use Rattle.engine.specs.StateRows.{shared_from, state_from, LeavesClock}
use Rattle.engine.proofs.AcceptedFields.{pause_accepted}
use Rattle.engine.proofs.ExecutionCases.{refusal_of, pause_on, pause_full, pause_done, pause_answer, there_clean}
use Rattle.engine.proofs.ExecutionCases.{withdraw_applied, applied_fits}
use Rattle.engine.proofs.CommandsInPlace.{turned_away, refused_later, carried_out, shared_as}
use Rattle.engine.proofs.SharedInPlace.{shared_then}
use Rattle.hazards.proofs.RefusalLaws.{number_not_zero}
use Rattle.engine.proofs.TriedInPlace.{has_room, refused_tries, refused_room}
use Rattle.engine.proofs.execution.perform_pause.Goals as goal

pub named_clock-requires : goal.named_clock-requires
named_clock-requires c = λ h. (pause_accepted c.args.command.now (rw c.pause_faults.ensures at h)).clock

pub returns-in_err-clock : goal.returns-in_err-clock
unfolding perform_pause
returns-in_err-clock c =
    let a = c.args in
    let w = a.words.now in
    let f = a.floats.now in
    let here = (slot_at (state_from w f) (clock_of a.command.now)).present in
    let e = c.in_err-clock.ensures.0 f ∙ ap (refusal_of here) c.pause_faults.ensures in
    refused_tries _ _ c.from_residual.ensures.1
    (turned_away w f a.command.now (pause_faults a.command.now) (pause_on a.journal_length (shared_from w) a.command.now) e
    (number_not_zero _) refl)

pub returns-in_err-need_room : goal.returns-in_err-need_room
unfolding perform_pause
returns-in_err-need_room c =
    let a = c.args in
    let w = a.words.now in
    let f = a.floats.now in
    let b = a.command.now in
    let here = slot_at (state_from w f) (clock_of b) in
    let e = c.in_ok-clock.ensures.0 f ∙ ap (refusal_of here.present) c.pause_faults.ensures in
    refused_room _ _ c.from_residual-in_err-need_room.ensures.1 _ c.in_err-need_room.ensures
    (λ l. refused_later w f b (pause_faults b) (pause_on a.journal_length (shared_from w) b) e
    refl journal_full (λ z. omega arith)
    (pause_full a.journal_length (shared_from w) b (scheduling.pause here.clock (now_of b))
    l) refl)

pub pause_in-event-requires : goal.pause_in-event-requires
pause_in-event-requires c =
    let a = c.args in
    let b = a.command.now in
    let here = slot_at (state_from a.words.now a.floats.now) (clock_of b) in
    let e = c.in_ok-clock.ensures.0 a.floats.now ∙ ap (refusal_of here.present) c.pause_faults.ensures in
    let clean = there_clean (pause_faults b) here (pause_on a.journal_length (shared_from a.words.now) b) e refl in
    rw c.in_ok-clock.ensures.1 (pause_accepted b clean).clock

pub count_applied-requires : goal.count_applied-requires
count_applied-requires c =
    let out = c.withdraw in
    let a = c.args in
    let h : a.journal_length < 2 ^ 64 = omega (arith, c.well_formed.1.1.0.1) in
    applied_fits (length a.command.now) a.journal_length
    (ap (λ (p : SharedState). p.applied_length) out.ensures.0.shared
    ∙ (withdraw_applied (shared_from c.pause_in-event.new.words) c.pause_in-event.result
    ∙ ap (λ (p : SharedState). p.applied_length) c.pause_in-event.ensures.0.shared))
    (has_room _ c.in_ok-need_room.ensures) h

pub returns : goal.returns
unfolding perform_pause
returns c =
    let count = c.count_applied in
    let out = c.withdraw in
    let call = c.pause_in-event in
    let a = c.args in
    let w = a.words.now in
    let f = a.floats.now in
    let b = a.command.now in
    let here = slot_at (state_from w f) (clock_of b) in
    let r = scheduling.pause here.clock (now_of b) in
    let e = c.in_ok-clock.ensures.0 f ∙ ap (refusal_of here.present) c.pause_faults.ensures in
    let fit = has_room _ c.in_ok-need_room.ensures in
    let left : LeavesClock w f (clock_of b) call.new.words call.new.floats r.clock × (call.result ≡ r.withdrawn) =
    rw (c.f64_at-time.ensures, c.in_ok-clock.ensures.1) at call.ensures in
    let answer = pause_answer out.result c.no_event-answer.ensures in
    let was = out.ensures.1 ∙ ap₂ is_withdrawn left.0.shared left.1 in
    let went = out.ensures.0.shared ∙ ap₂ withdraw left.0.shared left.1 in
    let sized : length call.new.words ≡ 177 = omega arith in
    let zero = ap (λ (x : Answer). x.number) answer in (
      carried_out w f b (pause_faults b) (pause_on a.journal_length (shared_from w) b) e refl
          (pause_done a.journal_length (shared_from w) b r fit refl was answer) zero left.0 sized
          (shared_then out.ensures.0 (shared_as count.ensures (ap (with_applied_bytes (length b)) went)))
          (omega arith),
      zero,
    )
