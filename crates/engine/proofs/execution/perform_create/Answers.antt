-- `execution::perform_create` meets its contract: faulty, present, without room, and done.
use mathlib.Core.Path.{◌≡◌, refl, sym, ◌∙◌, ap}
use mathlib.Core.List.{[]}
use Prim.Native.Nat.{ℕ, ◌*◌, ◌<◌, ◌^◌}
use native.Mathlib.Omega.{arith}
use borrow.Author.Tests.{eq-eqb, ne_eqb}
use lib.Dec.{eqb}
use lib.ListN.{length, get_or}
use Rattle.hazards.specs.Refusals.{number_of}
use Rattle.hazards.specs.declared.answers.Answer.{Answer}
use Rattle.engine.specs.Commands.{clock_of, created_clock}
use Rattle.engine.specs.State.{slot_at, with_slot, with_applied_bytes, EngineState, SharedState}
use Rattle.engine.specs.Execution.{holding, perform_create}
use Rattle.engine.specs.StateRows.{shared_from, state_from}
use Rattle.engine.proofs.AcceptedFields.{create_accepted}
use Rattle.engine.proofs.ExecutionCases.{create_faulty, create_present, create_full, create_done, applied_fits}
use Rattle.engine.proofs.StateParts.{shared_put, shared_coded}
use Rattle.engine.proofs.CommandsInPlace.{refused_there, done_there, present_there, shared_as}
use Rattle.hazards.proofs.RefusalLaws.{number_not_zero}
use Rattle.engine.proofs.TriedInPlace.{has_room, refused_tries, refused_room}
use Rattle.engine.proofs.execution.perform_create.Goals as goal

pub returns-in_err-refusal : goal.returns-in_err-refusal
returns-in_err-refusal c =
    let a = c.args in
    let w = a.words.now in
    let f = a.floats.now in
    let b = a.command.now in
    let n = a.journal_length in
    let slot = slot_at (state_from w f) (clock_of b) in
    let e = c.in_err-refusal.ensures ∙ ap number_of c.create_faults.ensures in
    refused_tries _ _ c.from_residual.ensures.1
    (refused_there w f (clock_of b) (perform_create n slot (shared_from w) b) (create_faulty n slot (shared_from w) b e (number_not_zero _))
    (number_not_zero _) refl)

pub bounds-words-clock : goal.bounds-words-clock
bounds-words-clock c =
    let e = c.in_ok-refusal.ensures ∙ ap number_of c.create_faults.ensures in
    let k = (create_accepted c.args.command.now (sym e ∙ refl)).clock in
    omega (arith, c.byte_at-clock.ensures, c.requires.sized.words, k)

pub returns-then-words-clock-eq1 : goal.returns-then-words-clock-eq1
returns-then-words-clock-eq1 c =
    let a = c.args in
    let w = a.words.now in
    let f = a.floats.now in
    let b = a.command.now in
    let n = a.journal_length in
    let slot = slot_at (state_from w f) (clock_of b) in
    let e = c.in_ok-refusal.ensures ∙ ap number_of c.create_faults.ensures in
    let k = (create_accepted b (sym e ∙ refl)).clock in
    let t =
    sym (present_there w f (clock_of b) k)
    ∙ (ap (λ (i : ℕ). eqb (get_or (get_or w (10 * i) []) 0 0) 1) (sym c.byte_at-clock.ensures) ∙ eq-eqb _ _ c.if-words-clock-eq1.true) in (
      refused_there w f (clock_of b) (perform_create n slot (shared_from w) b) (create_present n slot (shared_from w) b e refl t)
          (λ z. omega arith) refl,
      tt,
    )

pub returns-in_err-need_room : goal.returns-in_err-need_room
returns-in_err-need_room c =
    let a = c.args in
    let w = a.words.now in
    let f = a.floats.now in
    let b = a.command.now in
    let n = a.journal_length in
    let slot = slot_at (state_from w f) (clock_of b) in
    let e = c.in_ok-refusal.ensures ∙ ap number_of c.create_faults.ensures in
    let k = (create_accepted b (sym e ∙ refl)).clock in
    let t =
    sym (present_there w f (clock_of b) k)
    ∙ (ap (λ (i : ℕ). eqb (get_or (get_or w (10 * i) []) 0 0) 1) (sym c.byte_at-clock.ensures) ∙ ne_eqb _ _ c.if-words-clock-eq1.false) in
    refused_room _ _ c.from_residual-in_err-need_room.ensures.1 _ c.in_err-need_room.ensures
    (λ l. refused_there w f (clock_of b) (perform_create n slot (shared_from w) b) (create_full n slot (shared_from w) b e refl t l)
    (λ z. omega arith) refl)

pub create_in-requires : goal.create_in-requires
create_in-requires c =
    let e = c.in_ok-refusal.ensures ∙ ap number_of c.create_faults.ensures in
    rw c.byte_at-clock.ensures (create_accepted c.args.command.now (sym e ∙ refl)).clock

pub count_applied-requires : goal.count_applied-requires
count_applied-requires c =
    let call = c.create_in in
    let a = c.args in
    let h : a.journal_length < 2 ^ 64 = omega (arith, c.well_formed.1.1.0.1) in
    applied_fits (length a.command.now) a.journal_length (ap (λ (p : SharedState). p.applied_length) call.ensures.1)
    (has_room _ c.in_ok-need_room.ensures) h

pub returns : goal.returns
returns c =
    let call = c.create_in in
    let count = c.count_applied in
    let a = c.args in
    let w = a.words.now in
    let f = a.floats.now in
    let b = a.command.now in
    let n = a.journal_length in
    let slot = slot_at (state_from w f) (clock_of b) in
    let e = c.in_ok-refusal.ensures ∙ ap number_of c.create_faults.ensures in
    let k = (create_accepted b (sym e ∙ refl)).clock in
    let t =
    sym (present_there w f (clock_of b) k)
    ∙ (ap (λ (i : ℕ). eqb (get_or (get_or w (10 * i) []) 0 0) 1) (sym c.byte_at-clock.ensures) ∙ ne_eqb _ _ c.if-words-clock-eq1.false) in
    let p = with_applied_bytes (length b) (shared_from w) in
    let new = holding (created_clock b) in
    let made : state_from call.new.words call.new.floats ≡ with_slot (state_from w f) (clock_of b) new (shared_from w) =
    rw c.byte_at-clock.ensures at call.ensures.0 in
    let l₁ : length call.new.words ≡ 177 = omega arith in
    let l₂ : length count.new.words ≡ 177 = omega arith in
    let then = shared_as count.ensures (ap (with_applied_bytes (length b)) call.ensures.1) in
    let zero = ap (λ (r : Answer). r.number) c.no_event.ensures in (
      done_there w f (clock_of b) (perform_create n slot (shared_from w) b)
          (create_done n slot (shared_from w) b e refl t (has_room _ c.in_ok-need_room.ensures) refl
          c.no_event.ensures) zero
          (shared_put call.new.words count.new.words call.new.floats l₁ l₂ p then
          ∙ ap (λ (s : EngineState). record { slots = s.slots; shared = p }) made)
          (λ h. shared_coded call.new.words count.new.words call.new.floats l₁ l₂ p then (call.ensures.2 h)),
      zero,
    )
