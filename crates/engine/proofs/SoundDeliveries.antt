-- DELIVER keeps a sound state sound, and takes the earliest request out of the queue.
use mathlib.Core.Path.{◌≡◌, refl, sym, ◌∙◌, subst}
use mathlib.Core.List.{List}
use mathlib.Core.Option.{Option, some}
use Prim.Native.Nat.{ℕ, ◌+◌, ◌≤◌}
use native.Mathlib.Omega.{arith}
use lib.ListN.{length}
use Rattle.clocks.specs.Scheduling.{on_event_dispatched}
use Rattle.clocks.proofs.SoundKept.{dispatched_sound}
use Rattle.clocks.proofs.RequestLaws.{dispatched_scheduled}
use Rattle.engine.specs.Queue.{next_request, without}
use Rattle.engine.specs.State.{slot_at, with_slot, queued_requests, with_queue, with_applied_bytes, ClockSlot, SharedState, EngineState}
use Rattle.engine.specs.Execution.{holding}
use Rattle.engine.specs.Instance.{engine_of, ledger_fields_of}
use Rattle.engine.specs.declared.state.Request.{Request}
use Rattle.engine.proofs.SoundState.{SoundQueue, SoundState}
use Rattle.engine.proofs.Supplied.{queueing_of, Delivers}
use Rattle.engine.proofs.RequestLists.{In, not_for}
use Rattle.engine.proofs.Picks.{Best, next_best}
use Rattle.engine.proofs.RequestCounts.{keep_short}
use Rattle.engine.proofs.SoundQueues.{request-of, without_one, at_most_16, queue_drops}
use Rattle.engine.proofs.QueuePlaces.{with_queue_placed, with_queue_requests}
use Rattle.engine.proofs.SoundSteps.{clock_sound, slot_here, slot_elsewhere, stored_sound}

pub record Delivery (stream : List ℕ) (n : ℕ) (s t : EngineState) : Type 0 where
  pub state_sound : SoundState stream n t
  pub delivers : Delivers (engine_of stream n) (ledger_fields_of stream n) (queueing_of stream n) s t

module _ (stream : List ℕ) (n : ℕ) (s : EngineState) (g : SoundState stream n s) (c : List ℕ)
    (room : s.shared.applied_length + length c ≤ n)
    (r : Request) (earliest : next_request (queued_requests s.shared) ≡ some r) where
  abbrev p : SharedState
  p = s.shared

  abbrev q : List Request
  q = queued_requests p

  within : In r q
  within = (subst (λ (o : Option Request). Best o (λ y. In y q)) earliest (next_best q)).0

  abbrev slot : ClockSlot
  slot = holding (on_event_dispatched (slot_at s r.clock).clock).clock

  abbrev p' : SharedState
  p' = with_applied_bytes (length c) (with_queue p (without r.index q))

  pub deliver_step : Delivery stream n s (with_slot s r.clock slot p')
  deliver_step =
      let request = request-of g.queue r within in
      let below = request.clock in
      let left = without_one g.queue r within in
      let short : length (without r.index q) ≤ 16 =
      rw left (let a = keep_short (not_for r.clock) q in let b = at_most_16 g.queue in omega arith) in
      let h = with_queue_placed p (without r.index q) short in
      let requests : queued_requests p' ≡ without r.index q = with_queue_requests p (without r.index q) in
      record {
        state_sound =
            stored_sound stream n s g r.clock below slot p'
            (λ t. dispatched_sound (slot_at s r.clock).clock (clock_sound stream n s g r.clock below request.present))
            h.places h.queued
            (subst (SoundQueue (slot_at (with_slot s r.clock slot p')) p.request_count) (sym (requests ∙ left))
            (queue_drops r.clock g.queue (slot_elsewhere stream n s g r.clock below slot p')
            (rw (slot_here stream n s g r.clock below slot p', dispatched_scheduled (slot_at s r.clock).clock))))
            g.position room (let l = g.count in omega arith);
        delivers = record { taken = r; picks = earliest; queue = requests; counter = refl };
      }
