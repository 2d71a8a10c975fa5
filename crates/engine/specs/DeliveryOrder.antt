-- Change 2 of document 02: "Where two queued events have the same tick, the higher priority number is delivered first, then the lower
-- index." Said of what DELIVER takes from the queue, and of what the request ledger (document 01: book) picks for it.
use Rattle.std.specs.Prelude.{◌≡◌, false, List, ℕ, ◌≤◌, ◌<◌}
use Rattle.std.proofs.Math.Option.{Option, none, some}
use Rattle.std.proofs.Math.ListN.{get_elem?}
use Rattle.std.specs.Int.Signed.{lt_z}
use Rattle.engine.specs.Queue.{request_ticks, next_request}
use Rattle.engine.specs.Ledger.{Row, next_pending}
use Rattle.engine.specs.declared.state.Request.{Request}

-- r is one of the requests that wait; none of them has fewer ticks, none with the same ticks has a higher priority number, and none with
-- the same ticks and priority has a lower index
pub record Foremost (Waits : Request → Type 0) (r : Request) : Type 0 where
  pub waits : Waits r
  pub fewest_ticks : (q : Request) → Waits q → request_ticks r ≤ request_ticks q
  pub highest_priority : (q : Request) → Waits q → request_ticks q ≡ request_ticks r → lt_z r.priority q.priority ≡ false
  pub lowest_index : (q : Request) → Waits q → request_ticks q ≡ request_ticks r → q.priority ≡ r.priority → r.index ≤ q.index

-- what is taken of those that wait: nothing only where none waits
abbrev pub Taken : Option Request → (Request → Type 0) → Type 0
Taken none Waits = (q : Request) → Waits q → ⊥
Taken (some r) Waits = Foremost Waits r

pub record DeliveryOrder : Type 0 where
  -- of any requests in the queue
  pub of_queue : (rs : List Request) → Taken (next_request rs) (λ q. (i : ℕ) × (get_elem? rs i ≡ some q))
  -- of the requests that are pending for the clocks below n, in a ledger with any rows
  pub of_ledger : (f : ℕ → Row) (n : ℕ) → Taken (next_pending f n) (λ q. (k : ℕ) × (k < n) × ((f k).pending ≡ some q))
