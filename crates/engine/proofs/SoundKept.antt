-- The engine supplies what demand 3's generic halves ask for: every performed command keeps a sound state sound, and the queue is what the
-- answers say.
use mathlib.Core.Path.{◌≡◌, refl, sym, ◌∙◌, ap, subst}
use mathlib.Core.Bool.{true}
use mathlib.Core.List.{List}
use Prim.Native.Nat.{ℕ, ◌<◌}
use native.Mathlib.Omega.{arith}
use borrow.Author.Tests.{eqb-true, eqb-false}
use lib.Dec.{eqb}
use lib.ListN.{length}
use Rattle.hazards.specs.Fields.{field_at}
use Rattle.hazards.specs.declared.answers.Answer.{Answer}
use Rattle.clocks.proofs.Sound.{SoundClock}
use Rattle.hazards.proofs.Cases.{by_test}
use Rattle.clocks.proofs.SoundKept.{new_sound, remove_sound, pause_sound, reschedule_sound, resume_sound}
use Rattle.clocks.proofs.SoundSetting.{set-sound}
use Rattle.clocks.proofs.SettingOutcomes.{set-within}
use Rattle.clocks.proofs.RequestLaws.{new_scheduled, set_rest, remove_rest, reschedule_requests, resume_requests}
use Rattle.clocks.proofs.RequestLaws.{pause_withdraws, pause_names_nothing, pause_leaves, pause_withdraws_nothing}
use Rattle.engine.specs.Commands as commands
use Rattle.engine.specs.Opening.{opened_state}
use Rattle.engine.specs.State.{slot_at, with_slot, ClockSlot, SharedState, EngineState}
use Rattle.engine.specs.Engine.{code, performed}
use Rattle.engine.specs.Execution.{done, perform_on, target, perform}
use Rattle.engine.specs.Commands.{clock_of, now_of, censor_of, setting_of, created_clock}
use Rattle.engine.specs.Instance.{engine_of, ledger_fields_of}
use Rattle.engine.proofs.SoundState.{SoundState}
use Rattle.engine.proofs.Supplied.{queueing_of, Sound, Queues, QueueLaws}
use Rattle.engine.proofs.CommandLists.{Whole}
use Rattle.engine.proofs.AcceptedFields.{create_accepted, set-accepted, cause_accepted, reschedule_accepted, pause_accepted}
use Rattle.engine.proofs.PerformedWays.{performed_way, done_on}
use Rattle.engine.proofs.PerformedTargets.{only_deliver, target_delivered}
use Rattle.engine.proofs.ExecutionCases.{target_named}
use Rattle.engine.proofs.SoundSteps.{Step, clock_sound, create_step, channels_step, reschedule_step, pause_step, idle_step}
use Rattle.engine.proofs.SoundDeliveries.{Delivery, deliver_step}
use Rattle.engine.proofs.SoundValid.{opened_sound, sound_state_valid}

module _ (stream : List ℕ) (n : ℕ) (s : EngineState) (c : List ℕ) where
  abbrev p : SharedState
  p = s.shared

  module _ (g : SoundState stream n s) where
    -- ---- a command but DELIVER

    named_step : Whole (engine_of stream n) c → (code c ≡ commands.deliver → ⊥) → (slot : ClockSlot) (p' : SharedState) (a : Answer)
        → perform_on stream n (slot_at s (clock_of c)) p c ≡ done slot p' a → Step stream n s c slot p' a
    named_step whole other slot p' a did =
        performed_way stream n old p c (Step stream n s c)
        (λ k f absent room.
        let h = create_accepted c f in
        create_step stream n s g c h.clock pos room (created_clock c) (new_sound _ _ _ _ _ _ h.scale)
        (new_scheduled _ _ _ _ _ _) absent)
        (λ k f present room.
        let h = set-accepted c f in
        channels_step stream n s g c h.clock pos room _ _
        (set-sound old.clock (sound h.clock present) (setting_of c) h.range h.intervals h.now stream p.position)
        (set_rest old.clock (setting_of c) stream p.position)
        (set-within old.clock (setting_of c) stream p.position g.position) present)
        (λ k f present room.
        let h = cause_accepted c f in
        channels_step stream n s g c h pos room _ p.position
        (remove_sound old.clock (sound h present) (field_at 4 c commands.cause_field))
        (remove_rest old.clock (field_at 4 c commands.cause_field)) g.position present)
        (λ k f present room.
        let h = reschedule_accepted c f in
        reschedule_step stream n s g c h.clock pos room _ (reschedule_requests old.clock (now_of c) (censor_of c) p.request_count)
        (reschedule_sound old.clock (sound h.clock present) (now_of c) (censor_of c) p.request_count h.now
        (λ e. h.censor)) present)
        (λ k f present room.
        let h = pause_accepted c f in
        by_test old.clock.is_active
        (λ e.
        pause_step stream n s g c h.clock pos room _ _ (pause_sound old.clock (sound h.clock present) (now_of c) h.now) present
        (pause_withdraws old.clock (now_of c) e) (pause_names_nothing old.clock (now_of c) e))
        (λ e.
        rw (pause_leaves old.clock (now_of c) e, pause_withdraws_nothing old.clock (now_of c) e)
        (idle_step stream n s g c h.clock pos room present)))
        (λ k f present room.
        let h = reschedule_accepted c f in
        reschedule_step stream n s g c h.clock pos room _ (resume_requests old.clock (now_of c) (censor_of c) p.request_count)
        (resume_sound old.clock (sound h.clock present) (now_of c) (censor_of c) p.request_count h.now
        (λ e. h.censor)) present)
        (λ k r e room. absurd (only_deliver stream n old p c k whole other)) slot p' a did
      where
        old : ClockSlot
        old = slot_at s (clock_of c)

        pos : 0 < length c
        pos = whole.pos

        sound : clock_of c < 16 → old.present ≡ true → SoundClock old.clock
        sound below present = clock_sound stream n s g (clock_of c) below present

    pub record Named (t : EngineState) (a : Answer) : Type 0 where
      pub state_sound : SoundState stream n t
      pub queues : Queues (engine_of stream n) (ledger_fields_of stream n) (queueing_of stream n) s t c a

    named_kept : Whole (engine_of stream n) c → (code c ≡ commands.deliver → ⊥) → (t : EngineState) (a : Answer)
        → perform stream n s c ≡ performed t a → Named t a
    named_kept whole other t a e =
        let d = done_on stream n s t c a e in
        let i = sym (target_named p c other) in
        let did = subst (λ (j : ℕ). perform_on stream n (slot_at s j) p c ≡ done d.slot d.shared a) i d.did in
        let stores = d.stores ∙ ap (λ (j : ℕ). with_slot s j d.slot d.shared) i in
        let step = named_step whole other d.slot d.shared a did in
        subst (λ (u : EngineState). Named u a) (sym stores) (record { state_sound = step.state_sound; queues = step.queues })

    -- ---- DELIVER

    delivered_kept : code c ≡ commands.deliver → (t : EngineState) (a : Answer) → perform stream n s c ≡ performed t a
        → Delivery stream n s t
    delivered_kept k t a e =
        let d = done_on stream n s t c a e in
        let i = target p c in
        subst (Delivery stream n s) (sym d.stores)
        (performed_way stream n (slot_at s i) p c (λ slot p' b. Delivery stream n s (with_slot s i slot p'))
        (λ o f h room. absurd (omega arith))
        (λ o f h room. absurd (omega arith)) (λ o f h room. absurd (omega arith)) (λ o f h room. absurd (omega arith))
        (λ o f h room. absurd (omega arith)) (λ o f h room. absurd (omega arith))
        (λ o r earliest room. rw (target_delivered p c r k earliest) (deliver_step stream n s g c room r earliest))
        d.slot d.shared a d.did)

-- ---- what the generic halves ask for

module _ (stream : List ℕ) (n : ℕ) where
  keeps : (s t : EngineState) (c : List ℕ) (a : Answer) → Whole (engine_of stream n) c → SoundState stream n s
      → perform stream n s c ≡ performed t a
      → SoundState stream n t
  keeps s t c a whole g e =
      by_test (eqb (code c) commands.deliver) (λ k. (delivered_kept stream n s c g (eqb-true _ _ k) t a e).state_sound)
      (λ k. (named_kept stream n s c g whole (eqb-false _ _ k) t a e).state_sound)

  pub engine_sound : Sound (engine_of stream n) (SoundState stream n)
  engine_sound = record { opens = opened_sound stream n; keeps = keeps; passes = λ s g. sound_state_valid s stream n g }

  pub engine_queue : QueueLaws (engine_of stream n) (ledger_fields_of stream n) (queueing_of stream n) (SoundState stream n)
  unfolding opened_state
  engine_queue = record {
    none_queued = refl;
    none_made = refl;
    delivers = λ s t c a g k e. (delivered_kept stream n s c g k t a e).delivers;
    queues = λ s t c a whole g k e. (named_kept stream n s c g whole k t a e).queues;
  }
