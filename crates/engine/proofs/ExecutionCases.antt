-- What each command but UNDO does in each of its cases, over any slot, shared state, journal length and command.
use mathlib.Core.Path.{◌≡◌, refl, sym, ◌∙◌, ap, ap₂, subst}
use mathlib.Core.Bool.{Bool, true, false, cond, ◌&&◌}
use mathlib.Core.List.{List}
use mathlib.Core.Option.{Option, none, some}
use Prim.Native.Nat.{ℕ, ◌+◌, ◌-◌, ◌<◌, ◌≤◌, ◌^◌}
use native.Mathlib.Omega.{arith}
use lib.Dec.{eqb, leb}
use lib.Ieee.{Float}
use lib.ListN.{length, length-take}
use borrow.Author.Tests.{leb-true, leb-false, le-leb, lt-leb, eqb-true, eqb-false, eq-eqb, ne_eqb}
use Rattle.hazards.specs.Answers.{no_event}
use Rattle.hazards.specs.Fields.{field_at}
use Rattle.hazards.specs.Refusals.{too_many_causes, no_faults, number_of}
use Rattle.hazards.specs.declared.answers.Answer.{Answer}
use Rattle.hazards.specs.declared.refusals.Faults.{Faults}
use Rattle.hazards.proofs.Cases.{by_test}
use Rattle.clocks.specs.Clocks.{remove_channel, SurvivalClock}
use Rattle.clocks.specs.Scheduling as scheduling
use Rattle.clocks.specs.Setting.{set_channel, ChannelSet}
use Rattle.clocks.specs.declared.clocks.ScheduledEvent.{ScheduledEvent}
use Rattle.clocks.specs.Scheduling.{Censor}
use Rattle.clocks.specs.Scheduling.{Dispatched, Paused, Rescheduled}
use Rattle.engine.specs.Commands as commands
use Rattle.engine.specs.Refusals.{clock_present, clock_absent, queue_empty, journal_full}
use Rattle.engine.specs.Queue.{next_request, without, is_queued}
use Rattle.engine.specs.State.{queued_requests, with_queue, with_request, with_position, with_applied_bytes, ClockSlot, SharedState}
use Rattle.engine.specs.Execution.{OnSlot, refused, done, unless_full, unless_faulty, on_clock, holding, acknowledged, is_withdrawn}
use Rattle.engine.specs.Execution.{withdraw, request_of, event_answer, withdrawn_answer, clock_of_request, target, after_set}
use Rattle.engine.specs.Execution.{after_reschedule, after_pause, delivered, perform_create, perform_set, perform_remove}
use Rattle.engine.specs.Execution.{perform_reschedule, perform_resume, perform_pause, perform_deliver, perform_on}
use Rattle.engine.specs.Commands.{byte_at, clock_of, create_faults, set_faults, cause_faults, reschedule_faults, pause_faults, faults_of}
use Rattle.engine.specs.Commands.{created_clock, setting_of, now_of, censor_of}
use Rattle.engine.specs.ExecutionInternals.{Countable}
use Rattle.engine.specs.declared.state.Request.{Request}
use Rattle.engine.proofs.QueueLaws.{without-length}

-- ---- room in the journal, tested without a sum
module _ (taken more n : ℕ) where
  pub room_over : n < taken → leb (taken + more) n ≡ false
  room_over h = lt-leb (taken + more) n (omega arith)

  pub room_left : taken ≤ n → leb more (n - taken) ≡ leb (taken + more) n
  room_left h = go (leb more (n - taken)) refl
    where
      go : (t : Bool) → leb more (n - taken) ≡ t → leb more (n - taken) ≡ leb (taken + more) n
      go true e = e ∙ sym (le-leb (taken + more) n (omega (arith, leb-true more (n - taken) e)))
      go false e = e ∙ sym (lt-leb (taken + more) n (omega (arith, leb-false more (n - taken) e)))

-- ---- 4 to 7 and 9, of the commands that name a clock which is there
module _ (f : Faults) {number : ℕ} (e : number ≡ number_of f) (d : OnSlot) where
  faults_met : (number ≡ 0 → ⊥) → refused number ≡ unless_faulty f d
  faults_met h =
      subst (λ (m : ℕ). refused number ≡ cond (eqb m 0) d (refused m)) e
      (ap (λ (t : Bool). cond t d (refused number)) (sym (ne_eqb number 0 h)))

  no-faults : number ≡ 0 → d ≡ unless_faulty f d
  no-faults h =
      subst (λ (m : ℕ). d ≡ cond (eqb m 0) d (refused m)) e (ap (λ (t : Bool). cond t d (refused number)) (sym (eq-eqb number 0 h)))

-- what is done to a clock that is there
module _ (n : ℕ) (p : SharedState) (c : List ℕ) where
  abbrev pub set_on : List ℕ → SurvivalClock → OnSlot
  set_on stream k = after_set n p c (set_channel k (setting_of c) stream p.position)

  abbrev pub remove_on : SurvivalClock → OnSlot
  remove_on k =
      unless_full n p c (done (holding (remove_channel k (field_at 4 c commands.cause_field))) (with_applied_bytes (length c) p) acknowledged)

  abbrev pub pause_on : SurvivalClock → OnSlot
  pause_on k = after_pause n p c (scheduling.pause k (now_of c))

-- the number of 4 to 7 or 9, or 0
abbrev or_absent : Bool → ℕ → ℕ
or_absent present m = cond (eqb m 0) (cond present 0 clock_absent) m

abbrev pub refusal_of : Bool → Faults → ℕ
refusal_of present f = or_absent present (number_of f)

module _ (f : Faults) {number : ℕ} (e : number ≡ number_of f) where
  pub refusal_faulty : (present : Bool) → (number ≡ 0 → ⊥) → number ≡ refusal_of present f
  refusal_faulty present h =
      ap (λ (t : Bool). cond t (cond present 0 clock_absent) number) (sym (ne_eqb number 0 h)) ∙ ap (or_absent present) e

  pub refusal_clock : (present : Bool) → number ≡ 0 → cond present 0 clock_absent ≡ refusal_of present f
  refusal_clock present h =
      ap (λ (t : Bool). cond t (cond present 0 clock_absent) number) (sym (eq-eqb number 0 h)) ∙ ap (or_absent present) e

-- z: no fault; p: the clock is there; d: what is done to it then
module _ (d : OnSlot) (number m : ℕ) where
  by_number : (z p : Bool) → number ≡ cond z (cond p 0 clock_absent) m → (number ≡ 0 → ⊥)
      → refused number ≡ cond z (cond p d (refused clock_absent)) (refused m)
  by_number true true e h = absurd (h e)
  by_number true false e h = ap refused e
  by_number false p e h = ap refused e

  by_clock : (z p : Bool) → eqb m 0 ≡ z → number ≡ cond z (cond p 0 clock_absent) m → number ≡ 0
      → d ≡ cond z (cond p d (refused clock_absent)) (refused m)
  by_clock true true q e h = refl
  by_clock true false q e h = absurd (omega arith)
  by_clock false p q e h = absurd (eqb-false m 0 q (sym e ∙ h))

module _ (f : Faults) (slot : ClockSlot) (d : SurvivalClock → OnSlot) {number : ℕ} (e : number ≡ refusal_of slot.present f) where
  pub not_done : (number ≡ 0 → ⊥) → refused number ≡ unless_faulty f (on_clock slot d)
  not_done h = by_number (d slot.clock) number (number_of f) (eqb (number_of f) 0) slot.present e h

  pub there : number ≡ 0 → d slot.clock ≡ unless_faulty f (on_clock slot d)
  there h = by_clock (d slot.clock) number (number_of f) (eqb (number_of f) 0) slot.present refl e h

  pub there_clean : number ≡ 0 → number_of f ≡ 0
  there_clean h = by_test (eqb (number_of f) 0) (λ q. eqb-true (number_of f) 0 q) (λ q. sym (rw q at e) ∙ h)

  pub there_present : number ≡ 0 → slot.present ≡ true
  there_present h = go slot.present (rw (eq-eqb (number_of f) 0 (there_clean h)) at e)
    where
      go : (p : Bool) → number ≡ cond p 0 clock_absent → p ≡ true
      go true q = refl
      go false q = absurd (omega arith)

-- ---- RESCHEDULE and RESUME, by the method that they call
module _ (n : ℕ) (slot : ClockSlot) (p : SharedState) (c : List ℕ) (method : SurvivalClock → Float → Censor → ℕ → Rescheduled) where
  abbrev pub method_on : SurvivalClock → OnSlot
  method_on k = after_reschedule n p c (method k (now_of c) (censor_of c) p.request_count)

-- ---- 14
module _ (n : ℕ) (p : SharedState) (c : List ℕ) (d : OnSlot) where
  pub full : leb (p.applied_length + length c) n ≡ false → refused journal_full ≡ unless_full n p c d
  full h = ap (λ (t : Bool). cond t d (refused journal_full)) (sym h)

  pub room : leb (p.applied_length + length c) n ≡ true → d ≡ unless_full n p c d
  room h = ap (λ (t : Bool). cond t d (refused journal_full)) (sym h)

-- ---- CREATE
module _ (n : ℕ) (slot : ClockSlot) (p : SharedState) (c : List ℕ) {number : ℕ} (e : number ≡ number_of (create_faults c)) where
  abbrev creation : OnSlot
  creation = done (holding (created_clock c)) (with_applied_bytes (length c) p) acknowledged

  abbrev on_free : Bool → OnSlot
  on_free t = cond t (refused clock_present) (unless_full n p c creation)

  pub create_faulty : (number ≡ 0 → ⊥) → refused number ≡ perform_create n slot p c
  unfolding perform_create
  create_faulty h = faults_met (create_faults c) e (on_free slot.present) h

  pub create_present : number ≡ 0 → slot.present ≡ true → refused clock_present ≡ perform_create n slot p c
  unfolding perform_create
  create_present h t = ap on_free (sym t) ∙ no-faults (create_faults c) e (on_free slot.present) h

  pub create_full : number ≡ 0 → slot.present ≡ false → leb (p.applied_length + length c) n ≡ false
      → refused journal_full ≡ perform_create n slot p c
  unfolding perform_create
  create_full h t l = full n p c creation l ∙ ap on_free (sym t) ∙ no-faults (create_faults c) e (on_free slot.present) h

  pub create_done : number ≡ 0 → slot.present ≡ false → leb (p.applied_length + length c) n ≡ true
      → {k : SurvivalClock} {a : Answer} → k ≡ created_clock c → a ≡ acknowledged
      → done (holding k) (with_applied_bytes (length c) p) a ≡ perform_create n slot p c
  unfolding perform_create
  create_done h t l q r =
      ap₂ (λ (k : SurvivalClock) (a : Answer). done (holding k) (with_applied_bytes (length c) p) a) q r
      ∙ room n p c creation l ∙ ap on_free (sym t) ∙ no-faults (create_faults c) e (on_free slot.present) h

-- ---- SET, once the channel is set or refused
module _ (n : ℕ) (p : SharedState) (c : List ℕ) (r : ChannelSet) where
  abbrev on_drawn : Bool → OnSlot
  on_drawn t = cond t (done (holding r.clock) (with_applied_bytes (length c) (with_position p r.position)) acknowledged) (refused r.number)

  abbrev on_eighth : Bool → OnSlot
  on_eighth t = cond t (refused too_many_causes) (unless_full n p c (on_drawn (eqb r.number 0)))

  pub set-ninth : r.number ≡ too_many_causes → refused r.number ≡ after_set n p c r
  set-ninth h = ap refused h ∙ ap on_eighth (sym (eq-eqb r.number too_many_causes h))

  module _ (h : r.number ≡ too_many_causes → ⊥) where
    pub set_full : leb (p.applied_length + length c) n ≡ false → refused journal_full ≡ after_set n p c r
    set_full l = full n p c (on_drawn (eqb r.number 0)) l ∙ ap on_eighth (sym (ne_eqb r.number too_many_causes h))

    set_room : leb (p.applied_length + length c) n ≡ true → on_drawn (eqb r.number 0) ≡ after_set n p c r
    set_room l = room n p c (on_drawn (eqb r.number 0)) l ∙ ap on_eighth (sym (ne_eqb r.number too_many_causes h))

    pub set-refused : leb (p.applied_length + length c) n ≡ true → (r.number ≡ 0 → ⊥) → refused r.number ≡ after_set n p c r
    set-refused l z = ap on_drawn (sym (ne_eqb r.number 0 z)) ∙ set_room l

    pub set-done : leb (p.applied_length + length c) n ≡ true → r.number ≡ 0 → {a : Answer} → a ≡ acknowledged
        → done (holding r.clock) (with_applied_bytes (length c) (with_position p r.position)) a ≡ after_set n p c r
    set-done l z q =
        ap (done (holding r.clock) (with_applied_bytes (length c) (with_position p r.position))) q
        ∙ ap on_drawn (sym (eq-eqb r.number 0 z)) ∙ set_room l

-- ---- withdrawing a scheduled event
module _ (p : SharedState) (e : ScheduledEvent) where
  pub not-scheduled : e.present ≡ false → false ≡ is_withdrawn p e
  not-scheduled h = ap (λ (t : Bool). t && is_queued e.index (queued_requests p)) (sym h)

  pub scheduled : e.present ≡ true → is_queued e.index (queued_requests p) ≡ is_withdrawn p e
  scheduled h = ap (λ (t : Bool). t && is_queued e.index (queued_requests p)) (sym h)

  abbrev leaving : Bool → SharedState
  leaving t = cond t (with_queue p (without e.index (queued_requests p))) p

  pub withdrawn_out : is_withdrawn p e ≡ true → leaving true ≡ withdraw p e
  withdrawn_out h = ap leaving (sym h)

  pub not_withdrawn : is_withdrawn p e ≡ false → p ≡ withdraw p e
  not_withdrawn h = ap leaving (sym h)

  leaving_countable : (t : Bool) → Countable p → Countable (leaving t)
  leaving_countable true k = record {
    places =
        omega (arith, without-length e.index (queued_requests p), length-take p.queued p.queue, k.places);
    requests = k.requests;
  }
  leaving_countable false k = k

  pub withdraw_countable : Countable p → Countable (withdraw p e)
  withdraw_countable k = leaving_countable (is_withdrawn p e) k

  leaving_applied : (t : Bool) → (leaving t).applied_length ≡ p.applied_length
  leaving_applied true = refl
  leaving_applied false = refl

  pub withdraw_applied : (withdraw p e).applied_length ≡ p.applied_length
  withdraw_applied = leaving_applied (is_withdrawn p e)

-- ---- an event is queued, or there is none
module _ (p : SharedState) (r : Request) {t : Bool} where
  pub enqueue_none : t ≡ false → p ≡ cond t (with_request p r) p
  enqueue_none h = ap (λ (b : Bool). cond b (with_request p r) p) (sym h)

  pub enqueue_one : t ≡ true → with_request p r ≡ cond t (with_request p r) p
  enqueue_one h = ap (λ (b : Bool). cond b (with_request p r) p) (sym h)

pub enqueue_applied : (p : SharedState) (r : Request) (t : Bool) → (cond t (with_request p r) p).applied_length ≡ p.applied_length
enqueue_applied p r true = refl
enqueue_applied p r false = refl

-- the applied length fits once there is room
pub applied_fits : (more n : ℕ) {before after : ℕ} → after ≡ before → leb (before + more) n ≡ true → n < 2 ^ 64 → after + more < 2 ^ 64
applied_fits more n {before} e l h = omega (arith, leb-true (before + more) n l)

-- ---- RESCHEDULE and RESUME, once the clock is rescheduled
module _ (n : ℕ) (p : SharedState) (c : List ℕ) (r : Rescheduled) where
  abbrev queueing : SharedState → SharedState
  queueing left = cond r.event.present (with_request left (request_of left c r.ticks)) left

  abbrev rescheduling : SharedState → Answer → OnSlot
  rescheduling after a = done (holding r.clock) (with_applied_bytes (length c) after) a

  abbrev rescheduled : OnSlot
  rescheduled =
      rescheduling (queueing (withdraw p r.withdrawn)) (event_answer r.event (is_withdrawn p r.withdrawn) r.ticks)

  pub reschedule_full : leb (p.applied_length + length c) n ≡ false → refused journal_full ≡ after_reschedule n p c r
  reschedule_full l = full n p c rescheduled l

  pub reschedule_done : leb (p.applied_length + length c) n ≡ true → {left after : SharedState} {a : Answer} {w : Bool}
      → left ≡ withdraw p r.withdrawn → after ≡ queueing left → w ≡ is_withdrawn p r.withdrawn
      → a ≡ event_answer r.event w r.ticks → rescheduling after a ≡ after_reschedule n p c r
  reschedule_done l out queued w q =
      ap₂ rescheduling (queued ∙ ap queueing out) (q ∙ ap (λ (t : Bool). event_answer r.event t r.ticks) w)
      ∙ room n p c rescheduled l

-- ---- PAUSE, once the clock is paused
pub pause_answer : (w : Bool) {a : Answer} → a ≡ no_event 0
    → record {
      number = a.number;
      event = a.event;
      censored = a.censored;
      withdrawn = w;
      cause = a.cause;
      delta = a.delta;
      ticks_low = a.ticks_low;
      ticks_high = a.ticks_high;
      piece = a.piece;
    }
    ≡ withdrawn_answer w
pause_answer w e = rw e

module _ (n : ℕ) (p : SharedState) (c : List ℕ) (r : Paused) where
  abbrev pausing : SharedState → Answer → OnSlot
  pausing left a = done (holding r.clock) (with_applied_bytes (length c) left) a

  abbrev paused : OnSlot
  paused = pausing (withdraw p r.withdrawn) (withdrawn_answer (is_withdrawn p r.withdrawn))

  pub pause_full : leb (p.applied_length + length c) n ≡ false → refused journal_full ≡ after_pause n p c r
  pause_full l = full n p c paused l

  pub pause_done : leb (p.applied_length + length c) n ≡ true → {left : SharedState} {a : Answer} {w : Bool}
      → left ≡ withdraw p r.withdrawn → w ≡ is_withdrawn p r.withdrawn → a ≡ withdrawn_answer w → pausing left a ≡ after_pause n p c r
  pause_done l out w q = ap₂ pausing out (q ∙ ap withdrawn_answer w) ∙ room n p c paused l

-- ---- DELIVER
module _ (n : ℕ) (slot : ClockSlot) (p : SharedState) (c : List ℕ) where
  pub deliver_none : none ≡ next_request (queued_requests p) → refused queue_empty ≡ perform_deliver n slot p c
  unfolding perform_deliver
  deliver_none e = ap (delivered n slot p c) e

module _ (n : ℕ) (slot : ClockSlot) (p : SharedState) (c : List ℕ) (r : Request) (e : some r ≡ next_request (queued_requests p)) where
  abbrev leaves_with : Dispatched → SharedState → Answer → OnSlot
  leaves_with d left a = done (holding d.clock) (with_applied_bytes (length c) left) a

  abbrev delivered_as : Dispatched → OnSlot
  delivered_as d =
      leaves_with d (with_queue p (without r.index (queued_requests p))) (event_answer d.event false r.ticks)

  abbrev delivery : OnSlot
  delivery = delivered_as (scheduling.on_event_dispatched slot.clock)

  deliver_room : unless_full n p c delivery ≡ perform_deliver n slot p c
  unfolding perform_deliver
  deliver_room = ap (delivered n slot p c) e

  pub deliver_full : leb (p.applied_length + length c) n ≡ false → refused journal_full ≡ perform_deliver n slot p c
  deliver_full l = full n p c delivery l ∙ deliver_room

  pub deliver_done : leb (p.applied_length + length c) n ≡ true → {d : Dispatched} {left : SharedState} {a : Answer}
      → d ≡ scheduling.on_event_dispatched slot.clock → left ≡ with_queue p (without r.index (queued_requests p))
      → a ≡ event_answer d.event false r.ticks → leaves_with d left a ≡ perform_deliver n slot p c
  deliver_done l {d} q out a = ap₂ (leaves_with d) out a ∙ ap delivered_as q ∙ room n p c delivery l ∙ deliver_room

-- ---- the clock that a command is about
module _ (p : SharedState) (c : List ℕ) where
  abbrev aimed : Bool → ℕ
  aimed t = cond t (clock_of_request (next_request (queued_requests p))) (clock_of c)

  pub target_named : (byte_at c 0 ≡ commands.deliver → ⊥) → clock_of c ≡ target p c
  unfolding target
  target_named h = ap aimed (sym (ne_eqb (byte_at c 0) commands.deliver h))

  pub target_deliver : byte_at c 0 ≡ commands.deliver → target p c ≡ clock_of_request (next_request (queued_requests p))
  unfolding target
  target_deliver h = ap aimed (eq-eqb (byte_at c 0) commands.deliver h)

  pub target_next : byte_at c 0 ≡ commands.deliver → {o : Option Request} → o ≡ next_request (queued_requests p)
      → clock_of_request o ≡ target p c
  target_next h e = ap clock_of_request e ∙ sym (target_deliver h)

-- ---- by its code
module _ (stream : List ℕ) (n : ℕ) (slot : ClockSlot) (p : SharedState) (c : List ℕ) where
  pub on_create : byte_at c 0 ≡ commands.create → perform_create n slot p c ≡ perform_on stream n slot p c
  unfolding perform_on
  on_create h = rw h

  pub on-set : byte_at c 0 ≡ commands.set → perform_set stream n slot p c ≡ perform_on stream n slot p c
  unfolding perform_on
  on-set h = rw h

  pub on_remove : byte_at c 0 ≡ commands.remove → perform_remove n slot p c ≡ perform_on stream n slot p c
  unfolding perform_on
  on_remove h = rw h

  pub on_reschedule : byte_at c 0 ≡ commands.reschedule → perform_reschedule n slot p c ≡ perform_on stream n slot p c
  unfolding perform_on
  on_reschedule h = rw h

  pub on_pause : byte_at c 0 ≡ commands.pause → perform_pause n slot p c ≡ perform_on stream n slot p c
  unfolding perform_on
  on_pause h = rw h

  pub on_resume : byte_at c 0 ≡ commands.resume → perform_resume n slot p c ≡ perform_on stream n slot p c
  unfolding perform_on
  on_resume h = rw h

  pub on_deliver : byte_at c 0 ≡ 7 → perform_deliver n slot p c ≡ perform_on stream n slot p c
  unfolding perform_on
  on_deliver h = rw h

  -- 4 to 7 come before every other refusal of a command
  abbrev faults_by : Bool → Bool → Bool → Bool → Bool → Bool → Faults
  faults_by a b d e f g =
      cond a (create_faults c)
      (cond b (set_faults c)
      (cond d (cause_faults c)
      (cond e (reschedule_faults c) (cond f (pause_faults c) (cond g (reschedule_faults c) no_faults)))))

  abbrev perform_by : Bool → Bool → Bool → Bool → Bool → Bool → OnSlot
  perform_by a b d e f g =
      cond a (perform_create n slot p c)
      (cond b (perform_set stream n slot p c)
      (cond d (perform_remove n slot p c)
      (cond e (perform_reschedule n slot p c)
      (cond f (perform_pause n slot p c) (cond g (perform_resume n slot p c) (perform_deliver n slot p c))))))

  faults_first : (a b d e f g : Bool) → (number_of (faults_by a b d e f g) ≡ 0 → ⊥)
      → perform_by a b d e f g ≡ refused (number_of (faults_by a b d e f g))
  unfolding perform_create perform_set perform_remove perform_reschedule perform_pause perform_resume
  faults_first true b d e f g h = sym (faults_met (create_faults c) refl _ h)
  faults_first false true d e f g h = sym (faults_met (set_faults c) refl _ h)
  faults_first false false true e f g h = sym (faults_met (cause_faults c) refl _ h)
  faults_first false false false true f g h = sym (faults_met (reschedule_faults c) refl _ h)
  faults_first false false false false true g h = sym (faults_met (pause_faults c) refl _ h)
  faults_first false false false false false true h = sym (faults_met (reschedule_faults c) refl _ h)
  faults_first false false false false false false h = absurd (h refl)

  pub faulty_refused : (number_of (faults_of c) ≡ 0 → ⊥) → perform_on stream n slot p c ≡ refused (number_of (faults_of c))
  unfolding perform_on faults_of
  faulty_refused =
      let code = byte_at c 0 in
      faults_first (eqb code commands.create) (eqb code commands.set) (eqb code commands.remove) (eqb code commands.reschedule)
      (eqb code commands.pause) (eqb code commands.resume)
