-- The engine meets the laws of demand 3's first half: a performed command lengthens the applied commands by its own bytes, within the
-- journal.
use mathlib.Core.Path.{◌≡◌, refl, ◌∙◌, ap}
use mathlib.Core.List.{List}
use Prim.Native.Nat.{ℕ, ◌+◌, ◌≤◌}
use lib.ListN.{length}
use Rattle.hazards.specs.declared.answers.Answer.{Answer}
use Rattle.clocks.specs.declared.clocks.ScheduledEvent.{ScheduledEvent}
use Rattle.clocks.specs.Scheduling.{Rescheduled}
use Rattle.engine.specs.Opening.{opened_state}
use Rattle.engine.specs.State.{slot_at, with_applied_bytes, ClockSlot, SharedState, EngineState}
use Rattle.engine.specs.Engine.{performed}
use Rattle.engine.specs.Execution.{withdraw, enqueue, target, perform}
use Rattle.engine.specs.Instance.{engine_of}
use Rattle.engine.proofs.Supplied.{Laws}
use Rattle.engine.proofs.SharedLaws.{withdraw_elsewhere, enqueue_elsewhere}
use Rattle.engine.proofs.PerformedWays.{Room, rescheduling, resuming, pausing, performed_way, done_on}

module _ (stream : List ℕ) (n : ℕ) where
  record Lengthened (p p' : SharedState) (c : List ℕ) : Type 0 where
    grows : p'.applied_length ≡ p.applied_length + length c
    fits : p.applied_length + length c ≤ n

  module _ (s : EngineState) (c : List ℕ) where
    abbrev p : SharedState
    p = s.shared

    abbrev old : ClockSlot
    old = slot_at s (target p c)

    unqueued : (e : ScheduledEvent) → Room stream n old p c → Lengthened p (with_applied_bytes (length c) (withdraw p e)) c
    unqueued e room = record { grows = ap (λ (x : ℕ). x + length c) (withdraw_elsewhere p e).applied; fits = room }

    requeued : (r : Rescheduled) → Room stream n old p c → Lengthened p (with_applied_bytes (length c) (enqueue (withdraw p r.withdrawn) c r)) c
    requeued r room = record {
      grows = ap (λ (x : ℕ). x + length c)
          ((enqueue_elsewhere (withdraw p r.withdrawn) c r).applied ∙ (withdraw_elsewhere p r.withdrawn).applied);
      fits = room;
    }

    lengthened : (t : EngineState) (a : Answer) → perform stream n s c ≡ performed t a → Lengthened p t.shared c
    lengthened t a e =
        let d = done_on stream n s t c a e in
        rw d.stores
        (performed_way stream n old p c (λ slot p' b. Lengthened p p' c) (λ k f o room. record { grows = refl; fits = room })
        (λ k f o room. record { grows = refl; fits = room }) (λ k f o room. record { grows = refl; fits = room })
        (λ k f o room. requeued (rescheduling stream n old p c) room) (λ k f o room. unqueued (pausing stream n old p c).withdrawn room)
        (λ k f o room. requeued (resuming stream n old p c) room) (λ k r q room. record { grows = refl; fits = room })
        d.slot d.shared a d.did)

  pub engine_laws : Laws (engine_of stream n) n
  unfolding opened_state
  engine_laws = record {
    opens = refl;
    grows = λ s t c a e. (lengthened s c t a e).grows;
    fits = λ s t c a e. (lengthened s c t a e).fits;
  }
