-- What an engine supplies so that demand 3 holds of it: laws of its applied length, an invariant of the states that it reaches, and laws of
-- its queue. Document 01's engine supplies them in EngineLaws and SoundKept.
use Prim.Native.Nat.{ℕ, ◌+◌, ◌≤◌, ◌<◌}
use mathlib.Core.Path.{◌≡◌}
use mathlib.Core.Bool.{true, false, cond}
use mathlib.Core.List.{List, [], ◌∷◌, ◌++◌}
use mathlib.Core.Option.{some}
use lib.ListN.{length}
use Rattle.engine.specs.Commands as commands
use Rattle.engine.specs.State.{queued_requests}
use Rattle.engine.specs.Queue.{next_request, keep_if, without, count_for}
use Rattle.engine.specs.Engine.{Bytes, performed, Engine, code}
use Rattle.engine.specs.Ledger.{LedgerFields}
use Rattle.engine.specs.Instance.{engine_of}
use Rattle.engine.specs.declared.state.Request.{Request}
use Rattle.engine.proofs.CommandLists.{Whole}
use Rattle.engine.proofs.RequestLists.{not_for}

-- a performed command lengthens the applied commands by its own bytes, within the journal of n bytes
pub record Laws (E : Engine) (n : ℕ) : Type 0 where
  pub opens : E.applied_length E.opened ≡ 0
  pub grows : (s t : E.State) (c : Bytes) (a : E.Answer) → E.perform s c ≡ performed t a
      → E.applied_length t ≡ E.applied_length s + length c
  pub fits : (s t : E.State) (c : Bytes) (a : E.Answer) → E.perform s c ≡ performed t a → E.applied_length s + length c ≤ n

-- a claim that the opened state meets, that each performed command keeps, and from which refusal 1's test follows. The test itself is not
-- kept: a finite float may become an infinity
pub record Sound (E : Engine) (SoundState : E.State → Type 0) : Type 0 where
  pub opens : SoundState E.opened
  pub keeps : (s t : E.State) (c : Bytes) (a : E.Answer) → Whole E c → SoundState s → E.perform s c ≡ performed t a → SoundState t
  pub passes : (s : E.State) → SoundState s → E.valid s ≡ true

-- the engine's queue and request counter
pub record Queueing (E : Engine) : Type 0 where
  pub queue : E.State → List Request
  pub counter : E.State → ℕ

-- those of document 01's engine
abbrev pub queueing_of : (stream : List ℕ) (n : ℕ) → Queueing (engine_of stream n)
queueing_of stream n = record { queue = λ s. queued_requests s.shared; counter = λ s. s.shared.request_count }

module _ (E : Engine) (R : LedgerFields E) (K : Queueing E) where
  -- the queue after a command but DELIVER, by its answer
  abbrev pub queue_after : E.State → Bytes → E.Answer → List Request
  queue_after s c a =
      let q : List Request = cond (R.withdrawn a) (keep_if (not_for (R.clock_of c)) (K.queue s)) (K.queue s) in
      cond (R.event a)
      (q ++ (record { clock = R.clock_of c; ticks = R.answer_ticks a; priority = R.priority_of c; index = K.counter s } ∷ []))
      q

  -- DELIVER takes the earliest request out of the queue
  pub record Delivers (s t : E.State) : Type 0 where
    pub taken : Request
    pub picks : next_request (K.queue s) ≡ some taken
    pub queue : K.queue t ≡ without taken.index (K.queue s)
    pub counter : K.counter t ≡ K.counter s

  -- any other command withdraws and queues as its answer says: what is withdrawn was queued, and a clock never has two
  pub record Queues (s t : E.State) (c : Bytes) (a : E.Answer) : Type 0 where
    pub queue : K.queue t ≡ queue_after s c a
    pub counter : K.counter t ≡ K.counter s + cond (R.event a) 1 0
    pub was : R.withdrawn a ≡ true → 0 < count_for (R.clock_of c) (K.queue s)
    pub one : R.event a ≡ true → R.withdrawn a ≡ false → count_for (R.clock_of c) (K.queue s) ≡ 0
    pub clock : R.event a ≡ true → R.clock_of c < 16

  pub record QueueLaws (SoundState : E.State → Type 0) : Type 0 where
    pub none_queued : K.queue E.opened ≡ []
    pub none_made : K.counter E.opened ≡ 0
    pub delivers : (s t : E.State) (c : Bytes) (a : E.Answer) → SoundState s → code c ≡ commands.deliver → E.perform s c ≡ performed t a
        → Delivers s t
    pub queues : (s t : E.State) (c : Bytes) (a : E.Answer) → Whole E c → SoundState s → (code c ≡ commands.deliver → ⊥)
        → E.perform s c ≡ performed t a → Queues s t c a
