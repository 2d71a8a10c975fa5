-- The order of deliveries: what comes after none of the others has the fewest ticks, then the highest priority, then the lowest index.
use Prim.Native.Nat.{ℕ}
use mathlib.Core.Path.{◌≡◌}
use mathlib.Core.Option.{Option, none, some}
use lib.ListN.{get_elem?}
use Rattle.hazards.proofs.Members.{at_place, of_place}
use Rattle.engine.specs.Queue.{next_request}
use Rattle.engine.specs.Ledger.{next_pending}
use Rattle.engine.specs.DeliveryOrder.{Taken, DeliveryOrder}
use Rattle.engine.specs.declared.state.Request.{Request}
use Rattle.engine.proofs.RequestLists.{In}
use Rattle.engine.proofs.RequestOrder.{lexicographic}
use Rattle.engine.proofs.Picks.{Best, best-map, next_best, PendingBelow, pending_best}

-- what comes after none of those that wait is foremost among them
taken : (o : Option Request) (P : Request → Type 0) → Best o P → Taken o P
taken none P h = h
taken (some r) P h = record {
  waits = h.0;
  fewest_ticks = λ q w. (lexicographic r q (h.1 q w)).ticks;
  highest_priority = λ q w. (lexicographic r q (h.1 q w)).priority;
  lowest_index = λ q w. (lexicographic r q (h.1 q w)).index;
}

pub delivery_order : DeliveryOrder
delivery_order = record {
  of_queue = λ rs.
      let P : Request → Type 0 = λ q. (i : ℕ) × (get_elem? rs i ≡ some q) in
      taken (next_request rs) P
      (best-map (next_request rs) (λ q. In q rs) P (λ q. at_place q rs) (λ q p. of_place q rs p.0 p.1) (next_best rs));
  of_ledger = λ f n. taken (next_pending f n) (PendingBelow f n) (pending_best f n);
}
