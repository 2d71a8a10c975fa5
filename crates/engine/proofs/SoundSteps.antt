-- Each command but DELIVER keeps a sound state sound, and withdraws and queues as its answer says.
use mathlib.Core.Path.{◌≡◌, refl, sym, ◌∙◌, ap, subst}
use mathlib.Core.Bool.{true, false, true≢false}
use mathlib.Core.List.{List, [], ◌∷◌, ◌++◌}
use Prim.Native.Nat.{ℕ, ◌+◌, ◌≤◌, ◌<◌}
use native.Mathlib.Omega.{arith}
use lib.ListN.{length, length-append, length-set}
use lib.Seq.{get_or-set_same, get_or-set_other}
use Rattle.hazards.specs.Draws.{stream_length}
use Rattle.hazards.specs.declared.answers.Answer.{Answer}
use Rattle.clocks.specs.Clocks.{not_scheduled, SurvivalClock}
use Rattle.clocks.specs.declared.clocks.ScheduledEvent.{ScheduledEvent}
use Rattle.clocks.specs.Scheduling.{Rescheduled}
use Rattle.clocks.proofs.Sound.{SoundClock}
use Rattle.hazards.proofs.Cases.{by_test}
use Rattle.clocks.proofs.EachLaws.{each_set, each_at}
use Rattle.clocks.proofs.RequestLaws.{OnlyChannels, AskedOfQueue}
use Rattle.engine.specs.Queue.{keep_if}
use Rattle.engine.specs.State.{empty_slot, slot_at, with_slot, queued_requests, with_position, with_request, with_applied_bytes, ClockSlot}
use Rattle.engine.specs.Commands.{clock_of, priority_of}
use Rattle.engine.specs.Execution.{holding, acknowledged, is_withdrawn, withdraw, request_of, enqueue, event_answer, withdrawn_answer}
use Rattle.engine.specs.Instance.{engine_of, ledger_fields_of}
use Rattle.engine.specs.State.{SharedState, EngineState}
use Rattle.engine.specs.declared.state.Request.{Request}
use Rattle.engine.proofs.Supplied.{queueing_of, Queues, queue_after}
use Rattle.engine.proofs.RequestLists.{not_for}
use Rattle.engine.proofs.SoundState.{SoundSlot, SoundRequest, SoundQueue, SoundState}
use Rattle.engine.proofs.SharedLaws.{withdraw_elsewhere, withdraw_count}
use Rattle.engine.proofs.RequestCounts.{none_for}
use Rattle.engine.proofs.SoundQueues.{at_most_16, unnamed_none, queue_stays, queue_drops, queue_replaces}
use Rattle.engine.proofs.QueuePlaces.{Placed, queued-length, with_request_placed, with_request_requests, Withdrawn, withdrawn}

-- slot, shared state and answer after a command about the clock that it names: the state is sound, and the queue is what the answer says
pub record Step (stream : List ℕ) (n : ℕ) (s : EngineState) (c : List ℕ) (slot : ClockSlot) (p' : SharedState) (a : Answer) : Type 0 where
  pub state_sound : SoundState stream n (with_slot s (clock_of c) slot p')
  pub queues : Queues (engine_of stream n) (ledger_fields_of stream n) (queueing_of stream n) s (with_slot s (clock_of c) slot p') c a

module _ (stream : List ℕ) (n : ℕ) (s : EngineState) (g : SoundState stream n s) where
  abbrev p : SharedState
  p = s.shared

  abbrev q : List Request
  q = queued_requests p

  pub placed : Placed p
  placed = record { places = g.places; queued = g.queued }

  -- ---- a slot and the shared state are stored

  module _ (i : ℕ) (below : i < 16) where
    pub clock_sound : (slot_at s i).present ≡ true → SoundClock (slot_at s i).clock
    clock_sound h = each_at i empty_slot (rw g.slots below) g.clocks h

    pub slot_here : (slot : ClockSlot) (p' : SharedState) → slot_at (with_slot s i slot p') i ≡ slot
    slot_here slot p' = get_or-set_same s.slots i slot empty_slot (rw g.slots below)

    pub slot_elsewhere : (slot : ClockSlot) (p' : SharedState) (j : ℕ) → (j ≡ i → ⊥) → slot_at (with_slot s i slot p') j ≡ slot_at s j
    slot_elsewhere slot p' j h = get_or-set_other s.slots i j slot empty_slot h

    pub stored_sound : (slot : ClockSlot) (p' : SharedState) → SoundSlot slot → length p'.queue ≡ 16 → p'.queued ≤ 16
        → SoundQueue (slot_at (with_slot s i slot p')) p'.request_count (queued_requests p') → p'.position ≤ stream_length stream
        → p'.applied_length ≤ n → p'.request_count ≤ p'.applied_length → SoundState stream n (with_slot s i slot p')
    stored_sound slot p' sound places queued queue position applied count = record {
      slots = length-set s.slots i slot ∙ g.slots;
      clocks = each_set i slot sound g.clocks;
      places = places;
      queued = queued;
      queue = queue;
      position = position;
      applied = applied;
      count = count;
    }

  -- ---- a command about the clock that it names

  module _ (c : List ℕ) (below : clock_of c < 16) (pos : 0 < length c) (room : p.applied_length + length c ≤ n) where
    abbrev i : ℕ
    i = clock_of c

    abbrev old : ClockSlot
    old = slot_at s i

    -- an answer that says nothing of requests
    acknowledged_queues : (slot : ClockSlot) (p' : SharedState) → queued_requests p' ≡ q → p'.request_count ≡ p.request_count
        → Queues (engine_of stream n) (ledger_fields_of stream n) (queueing_of stream n) s (with_slot s i slot p') c acknowledged
    acknowledged_queues slot p' e f = record {
      queue = e;
      counter = f ∙ omega arith;
      was = λ h. absurd (true≢false (sym h));
      one = λ h. absurd (true≢false (sym h));
      clock = λ h. absurd (true≢false (sym h));
    }

    -- CREATE
    pub create_step : (k : SurvivalClock) → SoundClock k → k.scheduled_event_id ≡ not_scheduled → old.present ≡ false
        → Step stream n s c (holding k) (with_applied_bytes (length c) p) acknowledged
    create_step k sound e absent =
        let p' = with_applied_bytes (length c) p in
        let none_here = unnamed_none g.queue i (rw absent) in
        record {
          state_sound =
              stored_sound i below (holding k) p' (λ h. sound) g.places g.queued
              (subst (SoundQueue (slot_at (with_slot s i (holding k) p')) p.request_count) (none_for i q none_here)
              (queue_drops i g.queue (slot_elsewhere i below (holding k) p') (rw (slot_here i below (holding k) p', e))))
              g.position room (let l = g.count in omega arith);
          queues = acknowledged_queues (holding k) p' refl refl;
        }

    -- SET and REMOVE: the clock's channels change, and the draw position may
    pub channels_step : (k : SurvivalClock) (position : ℕ) → SoundClock k → OnlyChannels old.clock k → position ≤ stream_length stream
        → old.present ≡ true → Step stream n s c (holding k) (with_applied_bytes (length c) (with_position p position)) acknowledged
    channels_step k position sound e within present =
        let p' = with_applied_bytes (length c) (with_position p position) in
        record {
          state_sound =
              stored_sound i below (holding k) p' (λ h. sound) g.places g.queued
              (queue_stays i g.queue (slot_elsewhere i below (holding k) p')
              (rw (slot_here i below (holding k) p')
              (record {
                present = sym present;
                event = ap (λ (x : SurvivalClock). x.scheduled_event_id) e;
                winner = ap (λ (x : SurvivalClock). x.current_winner) e;
              })))
              within room (let l = g.count in omega arith);
          queues = acknowledged_queues (holding k) p' refl refl;
        }

    -- the clock's old request is withdrawn, and an event is queued where there is one
    module _ (k : SurvivalClock) (e : ScheduledEvent) (withdraws : e ≡ old.clock.scheduled_event_id) (sound : SoundClock k)
        (present : old.present ≡ true)
      where
        abbrev p₁ : SharedState
        p₁ = withdraw p e

        left_of : Withdrawn p i e
        left_of = subst (Withdrawn p i) (sym withdraws) (withdrawn (slot_at s) p placed g.queue i present)

        -- nothing is queued
        pub unqueued_sound : k.scheduled_event_id ≡ not_scheduled → SoundState stream n (with_slot s i (holding k) (with_applied_bytes (length c) p₁))
        unqueued_sound names =
            let l = left_of in
            let p' = with_applied_bytes (length c) p₁ in
            let m = withdraw_elsewhere p e in
            let count : p₁.request_count ≡ p.request_count = withdraw_count p e in
            stored_sound i below (holding k) p' (λ h. sound) l.placed.places l.placed.queued
            (rw (count, l.left)
            (queue_drops i g.queue (slot_elsewhere i below (holding k) p') (rw (slot_here i below (holding k) p', names))))
            (rw m.position g.position) (rw m.applied room) (rw (count, m.applied) (let h = g.count in omega arith))

        -- what the answer says of it
        unqueued_queues : (a : Answer) → a.withdrawn ≡ is_withdrawn p e → a.event ≡ false
            → Queues (engine_of stream n) (ledger_fields_of stream n) (queueing_of stream n) s
            (with_slot s i (holding k) (with_applied_bytes (length c) p₁)) c a
        unqueued_queues a w v =
            let l = left_of in
            let count : p₁.request_count ≡ p.request_count = withdraw_count p e in
            record {
              queue = rw (w, v) (l.left ∙ sym l.answered);
              counter = rw v (count ∙ omega arith);
              was = λ h. rw (l.was, ← w, h) (omega arith);
              one = λ h. absurd (true≢false (sym h ∙ v));
              clock = λ h. absurd (true≢false (sym h ∙ v));
            }

        -- the next request is queued
        module _ (r : Rescheduled) (names : k.scheduled_event_id ≡ record { present = true; index = p.request_count })
            (wins : k.current_winner.present ≡ true) where
          abbrev new : Request
          new = request_of p₁ c r.ticks

          abbrev p₂ : SharedState
          p₂ = with_applied_bytes (length c) (with_request p₁ new)

          counts : p₁.request_count ≡ p.request_count
          counts = withdraw_count p e

          new_sound : SoundRequest (slot_at (with_slot s i (holding k) p₂)) (p.request_count + 1) new
          new_sound =
              let here = slot_here i below (holding k) p₂ in
              record {
                clock = below;
                present = rw here;
                named = rw (here, counts) names;
                winner = rw here wins;
                index = rw counts (omega arith);
              }

          queued_sound : SoundQueue (slot_at (with_slot s i (holding k) p₂)) (p.request_count + 1) (keep_if (not_for i) q ++ (new ∷ []))
          queued_sound = queue_replaces i g.queue (slot_elsewhere i below (holding k) p₂) new refl counts new_sound

          -- there is a place for it
          free : p₁.queued < 16
          free =
              let l = left_of in
              let a = at_most_16 queued_sound in
              let b = length-append (keep_if (not_for i) q) (new ∷ []) in
              let d : length (keep_if (not_for i) q) ≡ p₁.queued = ap length (sym l.left) ∙ queued-length p₁ l.placed in
              omega arith

          requests : queued_requests p₂ ≡ keep_if (not_for i) q ++ (new ∷ [])
          requests =
              let l = left_of in
              with_request_requests p₁ new l.placed free ∙ ap (λ (x : List Request). x ++ (new ∷ [])) l.left

          pub requeued_sound : SoundState stream n (with_slot s i (holding k) p₂)
          requeued_sound =
              let h = with_request_placed p₁ new left_of.placed free in
              let m = withdraw_elsewhere p e in
              let slots = slot_at (with_slot s i (holding k) p₂) in
              stored_sound i below (holding k) p₂ (λ t. sound) h.places h.queued
              (subst (λ (m : ℕ). SoundQueue slots (m + 1) (queued_requests p₂)) (sym counts)
              (subst (SoundQueue slots (p.request_count + 1)) (sym requests) queued_sound))
              (rw m.position g.position) (rw m.applied room) (rw (counts, m.applied) (let o = g.count in omega arith))

          requeued_queues : (a : Answer) → a.withdrawn ≡ is_withdrawn p e → a.event ≡ true
              → a.ticks_low ≡ r.ticks.low → a.ticks_high ≡ r.ticks.high
              → Queues (engine_of stream n) (ledger_fields_of stream n) (queueing_of stream n) s (with_slot s i (holding k) p₂) c a
          requeued_queues a w v low high =
              let l = left_of in
              let next : ℕ → Request = λ index. record { clock = i; ticks = r.ticks; priority = priority_of c; index = index } in
              let after : queue_after (engine_of stream n) (ledger_fields_of stream n) (queueing_of stream n) s c a ≡ keep_if (not_for i) q ++
              (next p.request_count ∷ []) =
              rw (w, v, low, high, l.answered) in
              record {
                queue = requests ∙ ap (λ (m : ℕ). keep_if (not_for i) q ++ (next m ∷ [])) counts ∙ sym after;
                counter = rw (v, counts);
                was = λ h. rw (l.was, ← w, h) (omega arith);
                one = λ h o. rw (l.was, ← w, o);
                clock = λ h. below;
              }

    -- RESCHEDULE and RESUME
    pub reschedule_step : (r : Rescheduled) → AskedOfQueue old.clock p.request_count r → SoundClock r.clock → old.present ≡ true
        → Step stream n s c (holding r.clock) (with_applied_bytes (length c) (enqueue (withdraw p r.withdrawn) c r))
        (event_answer r.event (is_withdrawn p r.withdrawn) r.ticks)
    reschedule_step r law sound present =
        let e = r.withdrawn in
        let w = law.withdraws in
        by_test r.event.present
        (λ v.
        rw v (record {
          state_sound = requeued_sound r.clock e w sound present r (law.names v) (law.wins v);
          queues = requeued_queues r.clock e w sound present r (law.names v) (law.wins v) _ refl refl refl refl;
        }))
        (λ v.
        rw v (record {
          state_sound = unqueued_sound r.clock e w sound present (law.names_nothing v);
          queues = unqueued_queues r.clock e w sound present _ refl refl;
        }))

    -- PAUSE of an active clock, and of any other
    pub pause_step : (k : SurvivalClock) (e : ScheduledEvent) → SoundClock k → old.present ≡ true → e ≡ old.clock.scheduled_event_id
        → k.scheduled_event_id ≡ not_scheduled
        → Step stream n s c (holding k) (with_applied_bytes (length c) (withdraw p e)) (withdrawn_answer (is_withdrawn p e))
    pause_step k e sound present w names = record {
      state_sound = unqueued_sound k e w sound present names;
      queues = unqueued_queues k e w sound present _ refl refl;
    }

    pub idle_step : old.present ≡ true
        → Step stream n s c (holding old.clock) (with_applied_bytes (length c) (withdraw p not_scheduled))
        (withdrawn_answer (is_withdrawn p not_scheduled))
    idle_step present =
        channels_step old.clock p.position (clock_sound i below present) refl g.position present
