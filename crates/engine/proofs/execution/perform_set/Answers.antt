-- `execution::perform_set` meets its contract: refused, a ninth cause, without room, without a draw, and done.
use mathlib.Core.Path.{◌≡◌, refl, sym, ◌∙◌, ap, ap₂}
use mathlib.Core.Bool.{true, false}
use Prim.Native.Nat.{◌<◌, ◌^◌}
use native.Mathlib.Omega.{arith}
use borrow.Author.Tests.{not-true, not-false}
use lib.ListN.{length}
use Rattle.std.proofs.Common.{Ok, Err}
use Rattle.hazards.specs.Refusals.{too_many_causes, journal_full}
use Rattle.hazards.specs.declared.answers.Answer.{Answer}
use Rattle.clocks.specs.Setting.{set_channel}
use Rattle.clocks.specs.RowsInternals.{takes_cause, channel_draw, channel_drawn}
use Rattle.clocks.specs.RowsInternals.{ChannelDraw}
use Rattle.clocks.proofs.SettingOutcomes.{taken_other, not_taken}
use Rattle.engine.specs.Commands.{clock_of, setting_of, set_faults}
use Rattle.engine.specs.State.{SharedState, slot_at, with_position, with_applied_bytes}
use Rattle.engine.specs.Execution.{refused, perform_set}
use Rattle.engine.specs.StateRows.{shared_from, state_from, LeavesClock}
use Rattle.engine.proofs.AcceptedFields.{set-accepted}
use Rattle.engine.proofs.ExecutionCases.{refusal_of, set_on, set-ninth, set_full, set-refused, set-done, there_clean, applied_fits}
use Rattle.engine.proofs.CommandsInPlace.{turned_away, refused_later, carried_out, shared_as}
use Rattle.engine.proofs.SharedInPlace.{shared_then}
use Rattle.hazards.proofs.RefusalLaws.{number_not_zero}
use Rattle.engine.proofs.TriedInPlace.{has_room, refused_tries, refused_room}
use Rattle.engine.proofs.execution.perform_set.Goals as goal

pub named_clock-requires : goal.named_clock-requires
named_clock-requires c = λ h. (set-accepted c.args.command.now (rw c.set_command-read.ensures.0 at h)).clock

pub returns-in_err-clock : goal.returns-in_err-clock
unfolding perform_set
returns-in_err-clock c =
    let a = c.args in
    let w = a.words.now in
    let f = a.floats.now in
    let b = a.command.now in
    let here = (slot_at (state_from w f) (clock_of b)).present in
    let e = c.in_err-clock.ensures.0 f ∙ ap (refusal_of here) c.set_command-read.ensures.0 in
    refused_tries _ _ c.from_residual.ensures.1
    (turned_away w f b (set_faults b) (set_on a.journal_length (shared_from w) b a.stream.now) e (number_not_zero _)
    refl)

pub takes_cause-requires : goal.takes_cause-requires
takes_cause-requires c =
    let a = c.args in
    let w = a.words.now in
    let f = a.floats.now in
    let b = a.command.now in
    let here = slot_at (state_from w f) (clock_of b) in
    let e = c.in_ok-clock.ensures.0 f ∙ ap (refusal_of here.present) c.set_command-read.ensures.0 in
    let does = set_on a.journal_length (shared_from w) b a.stream.now in
    let clean = there_clean (set_faults b) here does e refl in
    rw c.in_ok-clock.ensures.1 (set-accepted b clean).clock

pub returns-then-not-takes_cause : goal.returns-then-not-takes_cause
unfolding perform_set
returns-then-not-takes_cause c =
    let a = c.args in
    let w = a.words.now in
    let f = a.floats.now in
    let b = a.command.now in
    let here = slot_at (state_from w f) (clock_of b) in
    let e = c.in_ok-clock.ensures.0 f ∙ ap (refusal_of here.present) c.set_command-read.ensures.0 in
    let does = set_on a.journal_length (shared_from w) b a.stream.now in
    let r = set_channel here.clock (setting_of b) a.stream.now (shared_from w).position in
    let taken : takes_cause here.clock (setting_of b).cause_id ≡ false =
    sym (rw (c.set_command-read.ensures.1, c.in_ok-clock.ensures.1) at (c.takes_cause.ensures f)) ∙ not-true _ c.if-not-takes_cause.true-raw in
    let ninth : r.number ≡ too_many_causes = not_taken here.clock (setting_of b) a.stream.now (shared_from w).position taken in (
      refused_later w f b (set_faults b) does e refl too_many_causes (λ z. omega arith)
          (ap refused (sym ninth) ∙ set-ninth a.journal_length (shared_from w) b r ninth) refl,
      tt,
    )

pub returns-in_err-need_room : goal.returns-in_err-need_room
unfolding perform_set
returns-in_err-need_room c =
    let a = c.args in
    let w = a.words.now in
    let f = a.floats.now in
    let b = a.command.now in
    let here = slot_at (state_from w f) (clock_of b) in
    let e = c.in_ok-clock.ensures.0 f ∙ ap (refusal_of here.present) c.set_command-read.ensures.0 in
    let does = set_on a.journal_length (shared_from w) b a.stream.now in
    let r = set_channel here.clock (setting_of b) a.stream.now (shared_from w).position in
    let taken : takes_cause here.clock (setting_of b).cause_id ≡ true =
    sym (rw (c.set_command-read.ensures.1, c.in_ok-clock.ensures.1) at (c.takes_cause.ensures f)) ∙ not-false _ c.if-not-takes_cause.false-raw in
    let other = taken_other here.clock (setting_of b) a.stream.now (shared_from w).position taken in
    refused_room _ _ c.from_residual-in_err-need_room.ensures.1 _ c.in_err-need_room.ensures
    (λ l. refused_later w f b (set_faults b) does e refl journal_full (λ z. omega arith)
    (set_full a.journal_length (shared_from w) b r other l)
    refl)

pub set_in-requires : goal.set_in-requires
set_in-requires c =
    let a = c.args in
    let w = a.words.now in
    let f = a.floats.now in
    let b = a.command.now in
    let here = slot_at (state_from w f) (clock_of b) in
    let e = c.in_ok-clock.ensures.0 f ∙ ap (refusal_of here.present) c.set_command-read.ensures.0 in
    let does = set_on a.journal_length (shared_from w) b a.stream.now in
    let clean = there_clean (set_faults b) here does e refl in
    rw c.in_ok-clock.ensures.1 (set-accepted b clean).clock

pub returns-in_err-position : goal.returns-in_err-position
unfolding perform_set
returns-in_err-position c =
    let a = c.args in
    let w = a.words.now in
    let f = a.floats.now in
    let b = a.command.now in
    let here = slot_at (state_from w f) (clock_of b) in
    let e = c.in_ok-clock.ensures.0 f ∙ ap (refusal_of here.present) c.set_command-read.ensures.0 in
    let does = set_on a.journal_length (shared_from w) b a.stream.now in
    let r = set_channel here.clock (setting_of b) a.stream.now (shared_from w).position in
    let taken : takes_cause here.clock (setting_of b).cause_id ≡ true =
    sym (rw (c.set_command-read.ensures.1, c.in_ok-clock.ensures.1) at (c.takes_cause.ensures f)) ∙ not-false _ c.if-not-takes_cause.false-raw in
    let other = taken_other here.clock (setting_of b) a.stream.now (shared_from w).position taken in
    let fit = has_room _ c.in_ok-need_room.ensures in
    let call = c.in_err-position in
    let drawn : channel_drawn (shared_from w).position (Err call.field-0.0) ≡ channel_draw r =
    rw (c.set_command-read.ensures.1, c.in_ok-clock.ensures.1) at call.ensures.1 in
    let number = ap (λ (x : ChannelDraw). x.number) drawn in
    let same = call.ensures.2 in
    rw (same.0, same.1)
    (refused_tries _ _ c.from_residual-in_err-position.ensures.1
    (refused_later w f b (set_faults b) does e refl _ (number_not_zero _)
    (ap refused number ∙ set-refused a.journal_length (shared_from w) b r other fit (λ z. number_not_zero _ (number ∙ z)))
    refl))

pub count_applied-requires : goal.count_applied-requires
count_applied-requires c =
    let call = c.set_in in
    let put = c.put_position in
    let a = c.args in
    let h : a.journal_length < 2 ^ 64 = omega (arith, c.well_formed.1.1.1.0.1) in
    applied_fits (length a.command.now) a.journal_length
    (ap (λ (p : SharedState). p.applied_length) put.ensures.shared
    ∙ ap (λ (p : SharedState). p.applied_length) c.in_ok-position.ensures.0.shared)
    (has_room _ c.in_ok-need_room.ensures) h

pub returns : goal.returns
unfolding perform_set
returns c =
    let a = c.args in
    let w = a.words.now in
    let f = a.floats.now in
    let b = a.command.now in
    let here = slot_at (state_from w f) (clock_of b) in
    let e = c.in_ok-clock.ensures.0 f ∙ ap (refusal_of here.present) c.set_command-read.ensures.0 in
    let does = set_on a.journal_length (shared_from w) b a.stream.now in
    let r = set_channel here.clock (setting_of b) a.stream.now (shared_from w).position in
    let taken : takes_cause here.clock (setting_of b).cause_id ≡ true =
    sym (rw (c.set_command-read.ensures.1, c.in_ok-clock.ensures.1) at (c.takes_cause.ensures f)) ∙ not-false _ c.if-not-takes_cause.false-raw in
    let other = taken_other here.clock (setting_of b) a.stream.now (shared_from w).position taken in
    let fit = has_room _ c.in_ok-need_room.ensures in
    let call = c.set_in in
    let set = c.in_ok-position in
    let drawn : channel_drawn (shared_from w).position (Ok set.position) ≡ channel_draw r =
    rw (c.set_command-read.ensures.1, c.in_ok-clock.ensures.1) at set.ensures.1 in
    let number = ap (λ (x : ChannelDraw). x.number) drawn in
    let put = c.put_position in
    let count = c.count_applied in
    let left : LeavesClock w f (clock_of b) call.new.words call.new.floats r.clock =
    rw (c.set_command-read.ensures.1, c.in_ok-clock.ensures.1) at set.ensures.0 in
    let moved = put.ensures.shared ∙ ap₂ with_position left.shared (ap (λ (x : ChannelDraw). x.position) drawn) in
    let zero = ap (λ (x : Answer). x.number) c.no_event.ensures in (
      carried_out w f b (set_faults b) does e refl
          (set-done a.journal_length (shared_from w) b r other fit
          (sym number) c.no_event.ensures) zero left (omega arith)
          (shared_then put.ensures (shared_as count.ensures (ap (with_applied_bytes (length b)) moved)))
          (omega arith),
      zero,
    )
