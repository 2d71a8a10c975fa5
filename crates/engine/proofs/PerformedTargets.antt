-- The clock that a command is about: one that is performed is about one of the sixteen places, where the next request is.
use mathlib.Core.Path.{◌≡◌, sym, subst}
use mathlib.Core.List.{List}
use mathlib.Core.Option.{some}
use Prim.Native.Nat.{ℕ, ◌<◌}
use native.Mathlib.Omega.{arith}
use borrow.Author.Tests.{eqb-true, eqb-false, eq-eqb}
use lib.Dec.{eqb}
use lib.ListN.{length}
use Rattle.hazards.specs.declared.answers.Answer.{Answer}
use Rattle.hazards.proofs.Cases.{by_test}
use Rattle.engine.specs.Commands as commands
use Rattle.engine.specs.Commands.{width_of, clock_of}
use Rattle.engine.specs.Queue.{next_request}
use Rattle.engine.specs.State.{slot_at, queued_requests, ClockSlot, SharedState, EngineState}
use Rattle.engine.specs.Engine.{code}
use Rattle.engine.specs.Execution.{done, perform_on, target}
use Rattle.engine.specs.Instance.{engine_of}
use Rattle.engine.specs.declared.state.Request.{Request}
use Rattle.engine.proofs.CommandLists.{Whole}
use Rattle.engine.proofs.AcceptedFields.{create_accepted, set-accepted, cause_accepted, reschedule_accepted, pause_accepted}
use Rattle.engine.proofs.PerformedWays.{NoOther, performed_way}
use Rattle.engine.proofs.CommandLaws.{no_width}
use Rattle.engine.proofs.ExecutionCases.{target_named}

-- a code that has a width and is none of the others is DELIVER's
only_wide : (stream : List ℕ) (n : ℕ) (old : ClockSlot) (p : SharedState) (c : List ℕ) → NoOther stream n old p c
    → 0 < width_of (code c) → (code c ≡ commands.undo → ⊥) → (code c ≡ commands.deliver → ⊥) → ⊥
only_wide stream n old p c k wide no-undo other =
    let w =
    no_width (code c) k.not_create k.not_set k.not_remove k.not_reschedule k.not_pause k.not_resume other
    no-undo in
    omega arith

-- a whole command that is none of the others is DELIVER
pub only_deliver : (stream : List ℕ) (n : ℕ) (old : ClockSlot) (p : SharedState) (c : List ℕ) → NoOther stream n old p c
    → Whole (engine_of stream n) c → (code c ≡ commands.deliver → ⊥) → ⊥
only_deliver stream n old p c k whole other =
    let l : length c ≡ width_of (code c) = whole.len in
    let h = whole.pos in
    only_wide stream n old p c k (omega arith) whole.other other

pub target_delivered : (p : SharedState) (c : List ℕ) (r : Request) → code c ≡ commands.deliver
    → next_request (queued_requests p) ≡ some r → target p c ≡ r.clock
unfolding target
target_delivered p c r h e = rw (eq-eqb (code c) commands.deliver h, e)

module _ (stream : List ℕ) (n : ℕ) (s : EngineState) (c : List ℕ) where
  abbrev p : SharedState
  p = s.shared

  named : (code c ≡ commands.deliver → ⊥) → clock_of c < 16 → target p c < 16
  named h below = subst (λ (i : ℕ). i < 16) (target_named p c h) below

  next_target : code c ≡ commands.deliver → (r : Request) → next_request (queued_requests p) ≡ some r → r.clock < 16 → target p c < 16
  next_target d r e h = subst (λ (i : ℕ). i < 16) (sym (target_delivered p c r d e)) h

  -- an accepted command is about one of the sixteen, where the next request is
  pub accepted_target : ((r : Request) → next_request (queued_requests p) ≡ some r → r.clock < 16) → 0 < width_of (code c)
      → (code c ≡ commands.undo → ⊥) → (slot : ClockSlot) (p' : SharedState) (a : Answer)
      → perform_on stream n (slot_at s (target p c)) p c ≡ done slot p' a → target p c < 16
  accepted_target next wide no-undo slot p' a did =
      performed_way stream n old p c (λ slot p' a. target p c < 16)
      (λ k f h room. named (λ d. omega arith) (create_accepted c f).clock)
      (λ k f h room. named (λ d. omega arith) (set-accepted c f).clock)
      (λ k f h room. named (λ d. omega arith) (cause_accepted c f))
      (λ k f h room. named (λ d. omega arith) (reschedule_accepted c f).clock)
      (λ k f h room. named (λ d. omega arith) (pause_accepted c f).clock)
      (λ k f h room. named (λ d. omega arith) (reschedule_accepted c f).clock)
      (λ k r e room.
      by_test (eqb (code c) commands.deliver)
      (λ d. next_target (eqb-true _ _ d) r e (next r e))
      (λ d. absurd (only_wide stream n old p c k wide no-undo (eqb-false _ _ d)))) slot p' a did
    where
      old : ClockSlot
      old = slot_at s (target p c)
