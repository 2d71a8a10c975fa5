-- Document 01, "A command comes in", "Clocks" and "Answer": what each command but UNDO does, and the refusals that it meets, in the
-- table's order. A command is its own bytes, cut to its width; the journal is never read here, only its length n.
use Rattle.std.specs.Prelude.{Bool, true, false, cond, ◌&&◌, List, ℕ, ◌+◌, eqb, leb, length}
use Rattle.std.proofs.Math.Option.{Option, none, some}
use Rattle.hazards.specs.Fields.{field_at}
use Rattle.hazards.specs.Refusals.{too_many_causes, number_of}
use Rattle.hazards.specs.Answers.{no_event}
use Rattle.hazards.specs.declared.refusals.Faults.{Faults}
use Rattle.hazards.specs.declared.answers.Answer.{Answer}
use Rattle.clocks.specs.Clocks.{remove_channel, SurvivalClock}
use Rattle.clocks.specs.Setting.{set_channel, ChannelSet}
use Rattle.clocks.specs.Scheduling as scheduling
use Rattle.clocks.specs.declared.clocks.ScheduledEvent.{ScheduledEvent}
use Rattle.clocks.specs.Scheduling.{RealizedEvent}
use Rattle.clocks.specs.Scheduling.{Rescheduled, Paused}
use Rattle.clocks.specs.declared.ticks.Ticks.{Ticks}
use Rattle.engine.specs.Commands as commands
use Rattle.engine.specs.Commands.{byte_at, clock_of, setting_of, created_clock, now_of, censor_of, priority_of}
use Rattle.engine.specs.Commands.{create_faults, cause_faults, set_faults, reschedule_faults, pause_faults}
use Rattle.engine.specs.Refusals.{clock_present, clock_absent, queue_empty, journal_full}
use Rattle.engine.specs.Queue.{next_request, without, is_queued}
use Rattle.engine.specs.Engine.{Performed, rejected, performed}
use Rattle.engine.specs.State.{slot_at, with_slot, queued_requests, with_queue, with_request, with_position, with_applied_bytes, ClockSlot}
use Rattle.engine.specs.declared.state.Request.{Request}
use Rattle.engine.specs.State.{SharedState, EngineState}

-- what performing a command on a slot gives: a refusal's number, or slot and shared state after it and its answer
pub data OnSlot : Type 0 where
  refused : ℕ → OnSlot
  done : ClockSlot → SharedState → Answer → OnSlot

-- ---- what the commands do: a slot, the shared state p, the journal's length n and the command c

-- d where nothing was refused before and the journal has room
abbrev pub unless_full : ℕ → SharedState → List ℕ → OnSlot → OnSlot
unless_full n p c d = cond (leb (p.applied_length + length c) n) d (refused journal_full)

-- 4 to 7 first
abbrev pub unless_faulty : Faults → OnSlot → OnSlot
unless_faulty f d = cond (eqb (number_of f) 0) d (refused (number_of f))

-- d of the slot's clock, where it is present
abbrev pub on_clock : ClockSlot → (SurvivalClock → OnSlot) → OnSlot
on_clock slot d = cond slot.present (d slot.clock) (refused clock_absent)

abbrev pub holding : SurvivalClock → ClockSlot
holding k = record { present = true; clock = k }

-- the answer that nothing happened but what was asked
abbrev pub acknowledged : Answer
acknowledged = no_event 0

unfoldable pub perform_create : ℕ → ClockSlot → SharedState → List ℕ → OnSlot
perform_create n slot p c =
    unless_faulty (create_faults c)
    (cond slot.present (refused clock_present)
    (unless_full n p c (done (holding (created_clock c)) (with_applied_bytes (length c) p) acknowledged)))

-- 10, then 14, then 15 or 16
abbrev pub after_set : ℕ → SharedState → List ℕ → ChannelSet → OnSlot
after_set n p c r =
    cond (eqb r.number too_many_causes) (refused too_many_causes)
    (unless_full n p c
    (cond (eqb r.number 0) (done (holding r.clock) (with_applied_bytes (length c) (with_position p r.position)) acknowledged)
    (refused r.number)))

unfoldable pub perform_set : List ℕ → ℕ → ClockSlot → SharedState → List ℕ → OnSlot
perform_set stream n slot p c =
    unless_faulty (set_faults c) (on_clock slot (λ k. after_set n p c (set_channel k (setting_of c) stream p.position)))

unfoldable pub perform_remove : ℕ → ClockSlot → SharedState → List ℕ → OnSlot
perform_remove n slot p c =
    unless_faulty (cause_faults c)
    (on_clock slot
    (λ k. unless_full n p c
    (done (holding (remove_channel k (field_at 4 c commands.cause_field))) (with_applied_bytes (length c) p) acknowledged)))

-- a scheduled event that is queued is withdrawn
abbrev pub is_withdrawn : SharedState → ScheduledEvent → Bool
is_withdrawn p e = e.present && is_queued e.index (queued_requests p)

abbrev pub withdraw : SharedState → ScheduledEvent → SharedState
withdraw p e = cond (is_withdrawn p e) (with_queue p (without e.index (queued_requests p))) p

abbrev pub request_of : SharedState → List ℕ → Ticks → Request
request_of p c ticks = record {
  clock = clock_of c;
  ticks = ticks;
  priority = priority_of c;
  index = p.request_count;
}

-- an event is queued, where there is one
abbrev pub enqueue : SharedState → List ℕ → Rescheduled → SharedState
enqueue p c r = cond r.event.present (with_request p (request_of p c r.ticks)) p

-- event, censored, cause, delta, ticks and piece of an event; whether something was withdrawn
abbrev pub event_answer : RealizedEvent → Bool → Ticks → Answer
event_answer e withdrawn ticks = record {
  number = 0;
  event = e.present;
  censored = e.is_censored;
  withdrawn = withdrawn;
  cause = e.winning_cause;
  delta = e.delta_time;
  ticks_low = ticks.low;
  ticks_high = ticks.high;
  piece = e.piece;
}

abbrev pub after_reschedule : ℕ → SharedState → List ℕ → Rescheduled → OnSlot
after_reschedule n p c r =
    unless_full n p c
    (done (holding r.clock) (with_applied_bytes (length c) (enqueue (withdraw p r.withdrawn) c r))
    (event_answer r.event (is_withdrawn p r.withdrawn) r.ticks))

unfoldable pub perform_reschedule : ℕ → ClockSlot → SharedState → List ℕ → OnSlot
perform_reschedule n slot p c =
    unless_faulty (reschedule_faults c)
    (on_clock slot (λ k. after_reschedule n p c (scheduling.reschedule k (now_of c) (censor_of c) p.request_count)))

unfoldable pub perform_resume : ℕ → ClockSlot → SharedState → List ℕ → OnSlot
perform_resume n slot p c =
    unless_faulty (reschedule_faults c)
    (on_clock slot (λ k. after_reschedule n p c (scheduling.resume k (now_of c) (censor_of c) p.request_count)))

abbrev pub withdrawn_answer : Bool → Answer
withdrawn_answer withdrawn = event_answer scheduling.not_realized withdrawn (record { low = 0; high = 0 })

abbrev pub after_pause : ℕ → SharedState → List ℕ → Paused → OnSlot
after_pause n p c r =
    unless_full n p c
    (done (holding r.clock) (with_applied_bytes (length c) (withdraw p r.withdrawn))
    (withdrawn_answer (is_withdrawn p r.withdrawn)))

unfoldable pub perform_pause : ℕ → ClockSlot → SharedState → List ℕ → OnSlot
perform_pause n slot p c =
    unless_faulty (pause_faults c) (on_clock slot (λ k. after_pause n p c (scheduling.pause k (now_of c))))

-- the earliest request is taken out, and its clock dispatches its event; only the ticks are the request's
abbrev pub delivered : ℕ → ClockSlot → SharedState → List ℕ → Option Request → OnSlot
delivered n slot p c none = refused queue_empty
delivered n slot p c (some r) =
    let d = scheduling.on_event_dispatched slot.clock in
    unless_full n p c
    (done (holding d.clock) (with_applied_bytes (length c) (with_queue p (without r.index (queued_requests p))))
    (event_answer d.event false r.ticks))

unfoldable pub perform_deliver : ℕ → ClockSlot → SharedState → List ℕ → OnSlot
perform_deliver n slot p c = delivered n slot p c (next_request (queued_requests p))

-- by its code
unfoldable pub perform_on : List ℕ → ℕ → ClockSlot → SharedState → List ℕ → OnSlot
perform_on stream n slot p c =
    let code = byte_at c 0 in
    cond (eqb code commands.create) (perform_create n slot p c)
    (cond (eqb code commands.set) (perform_set stream n slot p c)
    (cond (eqb code commands.remove) (perform_remove n slot p c)
    (cond (eqb code commands.reschedule) (perform_reschedule n slot p c)
    (cond (eqb code commands.pause) (perform_pause n slot p c)
    (cond (eqb code commands.resume) (perform_resume n slot p c) (perform_deliver n slot p c))))))

-- ---- on the whole state

abbrev pub clock_of_request : Option Request → ℕ
clock_of_request none = 0
clock_of_request (some r) = r.clock

-- the clock that a command is about: the one that it names, and for DELIVER that of the earliest request
unfoldable pub target : SharedState → List ℕ → ℕ
target p c = cond (eqb (byte_at c 0) commands.deliver) (clock_of_request (next_request (queued_requests p))) (clock_of c)

abbrev pub stored : EngineState → ℕ → OnSlot → Performed EngineState Answer
stored s i (refused number) = rejected number
stored s i (done slot p a) = performed (with_slot s i slot p) a

-- every other clock's record stays as it is
unfoldable pub perform : List ℕ → ℕ → EngineState → List ℕ → Performed EngineState Answer
perform stream n s c =
    let i = target s.shared c in
    stored s i (perform_on stream n (slot_at s i) s.shared c)
