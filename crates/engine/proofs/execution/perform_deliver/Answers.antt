-- `execution::perform_deliver` meets its contract: nothing queued, without room, and done.
use mathlib.Core.Path.{◌≡◌, refl, sym, ◌∙◌, ap}
use mathlib.Core.Bool.{false}
use Prim.Native.Nat.{ℕ, ◌<◌, ◌^◌}
use native.Mathlib.Omega.{arith}
use lib.ListN.{length}
use Rattle.hazards.specs.declared.answers.Answer.{Answer}
use Rattle.clocks.specs.Scheduling as scheduling
use Rattle.clocks.specs.Scheduling.{RealizedEvent}
use Rattle.engine.specs.Queue.{next_request, without}
use Rattle.engine.specs.State.{slot_at, queued_requests, with_queue, with_applied_bytes, SharedState}
use Rattle.engine.specs.Execution.{clock_of_request, event_answer, perform_deliver}
use Rattle.engine.specs.StateRows.{shared_from, state_from, LeavesClock}
use Rattle.engine.proofs.ExecutionCases.{deliver_none, deliver_full, deliver_done, applied_fits}
use Rattle.engine.proofs.CommandsInPlace.{refused_there, done_there, held_state, held_coded, shared_as}
use Rattle.engine.proofs.SharedInPlace.{shared_then}
use Rattle.engine.proofs.TriedInPlace.{has_room, refused_room}
use Rattle.engine.proofs.execution.perform_deliver.Goals as goal

pub returns-in_default : goal.returns-in_default
returns-in_default c =
    let a = c.args in
    let w = a.words.now in
    let f = a.floats.now in
    let b = a.command.now in
    let n = a.journal_length in
    let k = clock_of_request (next_request (queued_requests (shared_from w))) in
    let slot = slot_at (state_from w f) k in (
      refused_there w f k (perform_deliver n slot (shared_from w) b)
          (deliver_none n slot (shared_from w) b (rw c.in_default.is at c.next_request.ensures))
          (λ z. omega arith) refl,
      tt,
    )

pub returns-in_err-need_room : goal.returns-in_err-need_room
returns-in_err-need_room c =
    let a = c.args in
    let w = a.words.now in
    let f = a.floats.now in
    let b = a.command.now in
    let n = a.journal_length in
    let k = clock_of_request (next_request (queued_requests (shared_from w))) in
    let slot = slot_at (state_from w f) k in
    refused_room _ _ c.from_residual.ensures.1 _ c.in_err-need_room.ensures
    (λ l. refused_there w f k (perform_deliver n slot (shared_from w) b)
    (deliver_full n slot (shared_from w) b c.in-Some.request c.in-Some.ensures l)
    (λ z. omega arith) refl)

pub dispatch_in-event-requires : goal.dispatch_in-event-requires
dispatch_in-event-requires c =
    c.requires.next c.in-Some.request (sym c.in-Some.ensures)

pub count_applied-requires : goal.count_applied-requires
count_applied-requires c =
    let out = c.take_out in
    let call = c.dispatch_in-event in
    let a = c.args in
    let h : a.journal_length < 2 ^ 64 = omega (arith, c.well_formed.1.1.0.1) in
    let length-of : SharedState → ℕ = λ p. p.applied_length in
    let same = ap length-of out.ensures.shared ∙ ap length-of call.ensures.0.shared in
    applied_fits (length a.command.now) a.journal_length same (has_room _ c.in_ok-need_room.ensures) h

pub returns : goal.returns
returns c =
    let count = c.count_applied in
    let out = c.take_out in
    let call = c.dispatch_in-event in
    let a = c.args in
    let w = a.words.now in
    let f = a.floats.now in
    let b = a.command.now in
    let n = a.journal_length in
    let k = clock_of_request (next_request (queued_requests (shared_from w))) in
    let slot = slot_at (state_from w f) k in
    let p = shared_from w in
    let r = c.in-Some.request in
    let there = c.in-Some.ensures in
    let same : r.clock ≡ k = ap clock_of_request there in
    let left : LeavesClock w f k call.new.words call.new.floats (scheduling.on_event_dispatched slot.clock).clock =
    rw same at call.ensures.0 in
    let gone = with_queue p (without r.index (queued_requests p)) in
    let without-it : SharedState → SharedState = λ s. with_queue s (without r.index (queued_requests s)) in
    let took = shared_as out.ensures (ap without-it call.ensures.0.shared) in
    let l₁ : length call.new.words ≡ 177 = omega arith in
    let l₃ : length count.new.words ≡ 177 = omega arith in
    let then = shared_then took (shared_as count.ensures (ap (with_applied_bytes (length b)) took.shared)) in
    let event = call.ensures.1 ∙ ap (λ (j : ℕ). (scheduling.on_event_dispatched (slot_at (state_from w f) j).clock).event) same in
    let zero = ap (λ (x : Answer). x.number) c.event_answer.ensures in (
      done_there w f k (perform_deliver n slot p b)
          (deliver_done n slot p b r there (has_room _ c.in_ok-need_room.ensures) refl refl
          (c.event_answer.ensures ∙ ap (λ (e : RealizedEvent). event_answer e false r.ticks) event))
          zero
          (held_state w f k call.new.words call.new.floats _ left count.new.words l₁ l₃ (with_applied_bytes (length b) gone) then
          (rw same at (c.requires.there r (sym there))))
          (held_coded w f k call.new.words call.new.floats _ left count.new.words l₁ l₃ (with_applied_bytes (length b) gone) then),
      zero,
    )
