-- The state: its records, what an unused place of it holds, and states with a part replaced.
use Rattle.std.specs.Prelude.{Bool, false, List, ◌++◌, ℕ, ◌+◌, ◌-◌, pos, length, get_or, set, take, replicate}
use Rattle.hazards.specs.Floats.{z}
use Rattle.hazards.specs.declared.ties.TieBreaker.TheVariants.{LowestCauseId}
use Rattle.clocks.specs.Clocks.{new_clock, SurvivalClock}
use Rattle.clocks.specs.declared.clocks.HazardInterruptionPolicy.TheVariants.{Restart}
use Rattle.engine.specs.declared.state.Counts.{Counts}
use Rattle.engine.specs.declared.state.Request.{Request}

-- ---- the state's records

-- a place for a clock; an absent one holds the empty clock
pub record ClockSlot : Type 0 where
  pub present : Bool
  pub clock : SurvivalClock

-- the queue with how many of its places are used, the requests made so far, the draw position, and the length of the applied commands in
-- the journal (document 01: standing length)
pub record SharedState : Type 0 where
  pub queue : List Request
  pub queued : ℕ
  pub request_count : ℕ
  pub position : ℕ
  pub applied_length : ℕ

-- the whole state: the sixteen slots, and the shared state
pub record EngineState : Type 0 where
  pub slots : List ClockSlot
  pub shared : SharedState

-- ---- what an unused place holds, and states with a part replaced

abbrev pub empty_clock : SurvivalClock
empty_clock = new_clock 0 false (record { index = 0; generation = 0 }) Restart LowestCauseId z

abbrev pub empty_slot : ClockSlot
empty_slot = record { present = false; clock = empty_clock }

abbrev pub empty_request : Request
empty_request = record { clock = 0; ticks = record { low = 0; high = 0 }; priority = pos 0; index = 0 }

abbrev pub slot_at : EngineState → ℕ → ClockSlot
slot_at s i = get_or s.slots i empty_slot

-- with another slot at a place, and another shared state
abbrev pub with_slot : EngineState → ℕ → ClockSlot → SharedState → EngineState
with_slot s i slot p = record { slots = set s.slots i slot; shared = p }

-- the requests that are queued, in their order
abbrev pub queued_requests : SharedState → List Request
queued_requests p = take p.queued p.queue

-- the counts beside the queue, and with others in their place
abbrev pub counts_of : SharedState → Counts
counts_of p = record {
  queued = p.queued;
  request_count = p.request_count;
  position = p.position;
  applied_length = p.applied_length;
}

abbrev pub with_counts : SharedState → Counts → SharedState
with_counts p counts = record {
  queue = p.queue;
  queued = counts.queued;
  request_count = counts.request_count;
  position = counts.position;
  applied_length = counts.applied_length;
}

-- with these requests queued and none else
abbrev pub with_queue : SharedState → List Request → SharedState
with_queue p rs = record {
  queue = rs ++ replicate (16 - length rs) empty_request;
  queued = length rs;
  request_count = p.request_count;
  position = p.position;
  applied_length = p.applied_length;
}

-- with one request more, which is counted. RESCHEDULE and RESUME alone put one in, and withdraw their clock's own before it, so that in a
-- valid state fewer than sixteen are queued then (proofs/QueueRoom.antt: rescheduled_room, resumed_room).
abbrev pub with_request : SharedState → Request → SharedState
with_request p r = record {
  queue = set p.queue p.queued r;
  queued = p.queued + 1;
  request_count = p.request_count + 1;
  position = p.position;
  applied_length = p.applied_length;
}

-- with another draw position
abbrev pub with_position : SharedState → ℕ → SharedState
with_position p position = record {
  queue = p.queue;
  queued = p.queued;
  request_count = p.request_count;
  position = position;
  applied_length = p.applied_length;
}

-- with n bytes more applied
abbrev pub with_applied_bytes : ℕ → SharedState → SharedState
with_applied_bytes n p = record {
  queue = p.queue;
  queued = p.queued;
  request_count = p.request_count;
  position = p.position;
  applied_length = p.applied_length + n;
}
