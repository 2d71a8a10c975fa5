-- What a withdrawal and a queued event leave of the shared state as it was: the counts, the draw position and the applied length.
use mathlib.Core.Path.{◌≡◌, refl}
use mathlib.Core.List.{List}
use Prim.Native.Nat.{ℕ}
use Rattle.clocks.specs.declared.clocks.ScheduledEvent.{ScheduledEvent}
use Rattle.clocks.specs.Scheduling.{Rescheduled}
use Rattle.hazards.proofs.Cases.{by_test}
use Rattle.engine.specs.Execution.{is_withdrawn, withdraw, enqueue}
use Rattle.engine.specs.State.{SharedState}

-- the same but for queue and request count
pub record Elsewhere (p p' : SharedState) : Type 0 where
  pub position : p'.position ≡ p.position
  pub applied : p'.applied_length ≡ p.applied_length

pub withdraw_elsewhere : (p : SharedState) (e : ScheduledEvent) → Elsewhere p (withdraw p e)
withdraw_elsewhere p e =
    by_test (is_withdrawn p e) (λ t. rw t (record { position = refl; applied = refl }))
    (λ t. rw t (record { position = refl; applied = refl }))

pub withdraw_count : (p : SharedState) (e : ScheduledEvent) → (withdraw p e).request_count ≡ p.request_count
withdraw_count p e = by_test (is_withdrawn p e) (λ t. rw t) (λ t. rw t)

pub enqueue_elsewhere : (p : SharedState) (c : List ℕ) (r : Rescheduled) → Elsewhere p (enqueue p c r)
enqueue_elsewhere p c r =
    by_test r.event.present (λ t. rw t (record { position = refl; applied = refl }))
    (λ t. rw t (record { position = refl; applied = refl }))
