-- What a command that is performed comes to, for each of the seven: the tests that it passed, and slot, shared state and answer after it.
use mathlib.Core.Path.{◌≡◌, refl, ◌∙◌, ap, subst}
use mathlib.Core.Bool.{Bool, true, false, cond}
use mathlib.Core.List.{List}
use mathlib.Core.Option.{Option, none, some}
use Prim.Native.Nat.{ℕ, ◌+◌, ◌≤◌}
use native.Mathlib.Omega.{arith}
use borrow.Author.Tests.{eqb-true, eqb-false, leb-true}
use lib.Dec.{eqb, leb}
use lib.ListN.{length}
use Rattle.hazards.specs.Fields.{field_at}
use Rattle.hazards.specs.Refusals.{too_many_causes, number_of}
use Rattle.hazards.specs.declared.refusals.Faults.{Faults}
use Rattle.hazards.specs.declared.answers.Answer.{Answer}
use Rattle.clocks.specs.Clocks.{remove_channel}
use Rattle.clocks.specs.Setting.{set_channel, ChannelSet}
use Rattle.clocks.specs.Scheduling as scheduling
use Rattle.clocks.specs.Scheduling.{Rescheduled, Paused}
use Rattle.engine.specs.Commands as commands
use Rattle.engine.specs.Queue.{next_request, without}
use Rattle.engine.specs.State.{slot_at, with_slot, queued_requests, with_queue, with_position, with_applied_bytes, ClockSlot, SharedState}
use Rattle.engine.specs.Engine.{performed}
use Rattle.engine.specs.Execution.{OnSlot, refused, done, unless_full, unless_faulty, on_clock, holding, acknowledged, is_withdrawn}
use Rattle.engine.specs.Execution.{withdraw, enqueue, event_answer, withdrawn_answer, perform_create, perform_set, perform_remove}
use Rattle.engine.specs.Execution.{perform_reschedule, perform_pause, perform_resume, perform_deliver, delivered, perform_on, target}
use Rattle.engine.specs.Execution.{stored, perform}
use Rattle.engine.specs.Commands.{byte_at, now_of, censor_of, setting_of, created_clock, create_faults, set_faults, cause_faults}
use Rattle.engine.specs.Commands.{reschedule_faults, pause_faults}
use Rattle.engine.specs.declared.state.Request.{Request}
use Rattle.engine.specs.State.{EngineState}

-- ---- what is done was not refused

refused_done : {m : ℕ} {slot : ClockSlot} {p : SharedState} {a : Answer} → refused m ≡ done slot p a → ⊥
refused_done e = let z : ◌≡◌ {A = ℕ} 0 1 = cc in omega arith

module _ {slot : ClockSlot} {p : SharedState} {a : Answer} where
  -- a test that was passed
  passed : (b : Bool) (d : OnSlot) (m : ℕ) → cond b d (refused m) ≡ done slot p a → (b ≡ true) × (d ≡ done slot p a)
  passed true d m e = (refl, e)
  passed false d m e = absurd (refused_done e)

  -- one that was to fail
  failed : (b : Bool) (d : OnSlot) (m : ℕ) → cond b (refused m) d ≡ done slot p a → (b ≡ false) × (d ≡ done slot p a)
  failed true d m e = absurd (refused_done e)
  failed false d m e = (refl, e)

  -- a claim on what is done
  carried : (X : ClockSlot → SharedState → Answer → Type 0) {slot' : ClockSlot} {p' : SharedState} {a' : Answer}
      → done slot' p' a' ≡ done slot p a
      → X slot' p' a' → X slot p a
  carried X {slot'} {p'} {a'} e x =
      let e₁ : slot' ≡ slot = cc in
      let e₂ : p' ≡ p = cc in
      let e₃ : a' ≡ a = cc in
      subst (X slot p) e₃ (subst (λ (q : SharedState). X slot q a') e₂ (subst (λ (k : ClockSlot). X k p' a') e₁ x))

module _ (stream : List ℕ) (n : ℕ) (old : ClockSlot) (p : SharedState) (c : List ℕ) where
  abbrev code : ℕ
  code = byte_at c 0

  -- the journal has room for it
  abbrev pub Room : Type 0
  Room = p.applied_length + length c ≤ n

  -- no other command's code
  pub record NoOther : Type 0 where
    pub not_create : code ≡ commands.create → ⊥
    pub not_set : code ≡ commands.set → ⊥
    pub not_remove : code ≡ commands.remove → ⊥
    pub not_reschedule : code ≡ commands.reschedule → ⊥
    pub not_pause : code ≡ commands.pause → ⊥
    pub not_resume : code ≡ commands.resume → ⊥

  abbrev pub setting : ChannelSet
  setting = set_channel old.clock (setting_of c) stream p.position

  abbrev pub rescheduling : Rescheduled
  rescheduling = scheduling.reschedule old.clock (now_of c) (censor_of c) p.request_count

  abbrev pub resuming : Rescheduled
  resuming = scheduling.resume old.clock (now_of c) (censor_of c) p.request_count

  abbrev pub pausing : Paused
  pausing = scheduling.pause old.clock (now_of c)

  -- X of slot, shared state and answer after a reschedule
  abbrev pub Rescheduling : (ClockSlot → SharedState → Answer → Type 0) → Rescheduled → Type 0
  Rescheduling X r =
      X (holding r.clock) (with_applied_bytes (length c) (enqueue (withdraw p r.withdrawn) c r))
      (event_answer r.event (is_withdrawn p r.withdrawn) r.ticks)

  module _ (X : ClockSlot → SharedState → Answer → Type 0)
      (create : code ≡ commands.create → number_of (create_faults c) ≡ 0 → old.present ≡ false → Room
      → X (holding (created_clock c)) (with_applied_bytes (length c) p) acknowledged)
      (set : code ≡ commands.set → number_of (set_faults c) ≡ 0 → old.present ≡ true → Room
      → X (holding setting.clock) (with_applied_bytes (length c) (with_position p setting.position)) acknowledged)
      (remove : code ≡ commands.remove → number_of (cause_faults c) ≡ 0 → old.present ≡ true → Room
      → X (holding (remove_channel old.clock (field_at 4 c commands.cause_field))) (with_applied_bytes (length c) p) acknowledged)
      (reschedule : code ≡ commands.reschedule → number_of (reschedule_faults c) ≡ 0 → old.present ≡ true → Room
      → Rescheduling X rescheduling)
      (pause : code ≡ commands.pause → number_of (pause_faults c) ≡ 0 → old.present ≡ true → Room
      → X (holding pausing.clock) (with_applied_bytes (length c) (withdraw p pausing.withdrawn))
      (withdrawn_answer (is_withdrawn p pausing.withdrawn)))
      (resume : code ≡ commands.resume → number_of (reschedule_faults c) ≡ 0 → old.present ≡ true → Room → Rescheduling X resuming)
      (deliver : NoOther → (r : Request) → next_request (queued_requests p) ≡ some r → Room
      → X (holding (scheduling.on_event_dispatched old.clock).clock)
      (with_applied_bytes (length c) (with_queue p (without r.index (queued_requests p))))
      (event_answer (scheduling.on_event_dispatched old.clock).event false r.ticks))
      (slot : ClockSlot) (p' : SharedState) (a : Answer)
    where
      abbrev Done : OnSlot → Type 0
      Done d = d ≡ done slot p' a

      -- faults, then an absent clock, then a full journal
      tested_way : (f : Faults) (slot'' : ClockSlot) (p'' : SharedState) (a'' : Answer)
          → (number_of f ≡ 0 → old.present ≡ true → Room → X slot'' p'' a'')
          → Done (unless_faulty f (on_clock old (λ k. unless_full n p c (done slot'' p'' a'')))) → X slot p' a
      tested_way f slot'' p'' a'' way e =
          let g = passed (eqb (number_of f) 0) _ _ e in
          let h = passed old.present _ _ g.1 in
          let i = passed (leb (p.applied_length + length c) n) _ _ h.1 in
          carried X i.1 (way (eqb-true _ _ g.0) h.0 (leb-true _ _ i.0))

      create_way : code ≡ commands.create → Done (perform_create n old p c) → X slot p' a
      unfolding perform_create
      create_way k e =
          let f = passed (eqb (number_of (create_faults c)) 0) _ _ e in
          let g = failed old.present _ _ f.1 in
          let h = passed (leb (p.applied_length + length c) n) _ _ g.1 in
          carried X h.1 (create k (eqb-true _ _ f.0) g.0 (leb-true _ _ h.0))

      set-way : code ≡ commands.set → Done (perform_set stream n old p c) → X slot p' a
      unfolding perform_set
      set-way k e =
          let f = passed (eqb (number_of (set_faults c)) 0) _ _ e in
          let g = passed old.present _ _ f.1 in
          let h = failed (eqb setting.number too_many_causes) _ _ g.1 in
          let i = passed (leb (p.applied_length + length c) n) _ _ h.1 in
          let j = passed (eqb setting.number 0) _ _ i.1 in
          carried X j.1 (set k (eqb-true _ _ f.0) g.0 (leb-true _ _ i.0))

      remove_way : code ≡ commands.remove → Done (perform_remove n old p c) → X slot p' a
      unfolding perform_remove
      remove_way k = tested_way (cause_faults c) _ _ _ (remove k)

      reschedule_way : code ≡ commands.reschedule → Done (perform_reschedule n old p c) → X slot p' a
      unfolding perform_reschedule
      reschedule_way k = tested_way (reschedule_faults c) _ _ _ (reschedule k)

      pause_way : code ≡ commands.pause → Done (perform_pause n old p c) → X slot p' a
      unfolding perform_pause
      pause_way k = tested_way (pause_faults c) _ _ _ (pause k)

      resume_way : code ≡ commands.resume → Done (perform_resume n old p c) → X slot p' a
      unfolding perform_resume
      resume_way k = tested_way (reschedule_faults c) _ _ _ (resume k)

      deliver_way : NoOther → Done (perform_deliver n old p c) → X slot p' a
      unfolding perform_deliver
      deliver_way k = go (next_request (queued_requests p)) refl
        where
          go : (o : Option Request) → next_request (queued_requests p) ≡ o → Done (delivered n old p c o) → X slot p' a
          go none q e = absurd (refused_done e)
          go (some r) q e =
              let h = passed (leb (p.applied_length + length c) n) _ _ e in
              carried X h.1 (deliver k r q (leb-true _ _ h.0))

      pub performed_way : Done (perform_on stream n old p c) → X slot p' a
      unfolding perform_on
      performed_way =
          go (eqb code commands.create) refl (eqb code commands.set) refl (eqb code commands.remove) refl
          (eqb code commands.reschedule) refl
          (eqb code commands.pause) refl (eqb code commands.resume) refl
        where
          go : (b₁ : Bool) → eqb code commands.create ≡ b₁ → (b₂ : Bool) → eqb code commands.set ≡ b₂
              → (b₃ : Bool) → eqb code commands.remove ≡ b₃ → (b₄ : Bool) → eqb code commands.reschedule ≡ b₄
              → (b₅ : Bool) → eqb code commands.pause ≡ b₅ → (b₆ : Bool) → eqb code commands.resume ≡ b₆
              → Done
              (cond b₁ (perform_create n old p c)
              (cond b₂ (perform_set stream n old p c)
              (cond b₃ (perform_remove n old p c)
              (cond b₄ (perform_reschedule n old p c)
              (cond b₅ (perform_pause n old p c) (cond b₆ (perform_resume n old p c) (perform_deliver n old p c)))))))
              → X slot p' a
          go true e₁ b₂ e₂ b₃ e₃ b₄ e₄ b₅ e₅ b₆ e₆ = create_way (eqb-true _ _ e₁)
          go false e₁ true e₂ b₃ e₃ b₄ e₄ b₅ e₅ b₆ e₆ = set-way (eqb-true _ _ e₂)
          go false e₁ false e₂ true e₃ b₄ e₄ b₅ e₅ b₆ e₆ = remove_way (eqb-true _ _ e₃)
          go false e₁ false e₂ false e₃ true e₄ b₅ e₅ b₆ e₆ = reschedule_way (eqb-true _ _ e₄)
          go false e₁ false e₂ false e₃ false e₄ true e₅ b₆ e₆ = pause_way (eqb-true _ _ e₅)
          go false e₁ false e₂ false e₃ false e₄ false e₅ true e₆ = resume_way (eqb-true _ _ e₆)
          go false e₁ false e₂ false e₃ false e₄ false e₅ false e₆ =
              deliver_way (record {
                not_create = eqb-false _ _ e₁;
                not_set = eqb-false _ _ e₂;
                not_remove = eqb-false _ _ e₃;
                not_reschedule = eqb-false _ _ e₄;
                not_pause = eqb-false _ _ e₅;
                not_resume = eqb-false _ _ e₆;
              })

-- ---- on the whole state

-- a command that is performed on a state is done on the slot that it is about
pub record DoneOn (stream : List ℕ) (n : ℕ) (s t : EngineState) (c : List ℕ) (a : Answer) : Type 0 where
  pub slot : ClockSlot
  pub shared : SharedState
  pub did : perform_on stream n (slot_at s (target s.shared c)) s.shared c ≡ done slot shared a
  pub stores : t ≡ with_slot s (target s.shared c) slot shared

pub done_on : (stream : List ℕ) (n : ℕ) (s t : EngineState) (c : List ℕ) (a : Answer) → perform stream n s c ≡ performed t a
    → DoneOn stream n s t c a
unfolding perform
done_on stream n s t c a = go (perform_on stream n (slot_at s (target s.shared c)) s.shared c) refl
  where
    go : (d : OnSlot) → perform_on stream n (slot_at s (target s.shared c)) s.shared c ≡ d
        → stored s (target s.shared c) d ≡ performed t a → DoneOn stream n s t c a
    go (refused m) q e = let z : ◌≡◌ {A = ℕ} 0 1 = cc in absurd (omega arith)
    go (done slot p b) q e = record { slot = slot; shared = p; did = q ∙ ap (done slot p) cc; stores = cc }
