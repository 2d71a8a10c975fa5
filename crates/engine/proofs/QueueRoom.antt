-- Where RESCHEDULE or RESUME puts a request in, fewer than sixteen are queued. In a valid state a queued request is the one that its clock
-- names, and no index is there twice, so no clock has two; and the clock's own is withdrawn first.
use mathlib.Core.Path.{◌≡◌, refl, sym, ◌∙◌, ap, subst}
use mathlib.Core.Logic.{inl, inr}
use mathlib.Core.Bool.{Bool, true, false, true≢false}
use mathlib.Core.List.{List, [], ◌∷◌}
use Prim.Native.Nat.{ℕ, ◌≤◌, ◌<◌}
use native.Mathlib.Omega.{arith}
use borrow.Author.Tests.{eqb-true, ltb-true}
use lib.Dec.{eqb, ltb, leb}
use lib.ListN.{length}
use lib.IntN.{pos}
use lib.Ieee.{Float}
use Rattle.hazards.specs.Lists.{all}
use Rattle.clocks.specs.Scheduling as scheduling
use Rattle.clocks.specs.declared.clocks.ScheduledEvent.{ScheduledEvent}
use Rattle.clocks.specs.Scheduling.{Censor}
use Rattle.hazards.proofs.Cases.{by_test, both_true}
use Rattle.clocks.proofs.RequestLaws.{reschedule_requests, resume_requests}
use Rattle.engine.specs.Queue.{keep_if, without, is_queued, count_for}
use Rattle.engine.specs.State.{slot_at, queued_requests, SharedState, EngineState}
use Rattle.engine.specs.Validation.{valid_slot, valid_request, distinct, valid_queue, valid_shared, valid_state}
use Rattle.engine.specs.Execution.{is_withdrawn, withdraw}
use Rattle.engine.specs.declared.state.Request.{Request}
use Rattle.engine.proofs.DistinctIndices.{in_there, distinct_twice, keep_distinct}
use Rattle.engine.proofs.ExecuteLaws.{valid_within}
use Rattle.engine.proofs.QueueLaws.{queued-length}
use Rattle.engine.proofs.RequestLists.{In, is_for, not_at, in_keep, keep_sat, keep_comm, keep_nothing, not_at_same}
use Rattle.engine.proofs.RequestCounts.{at-most, keep_short}

all_in : (f : Request → Bool) (q : List Request) → all f q ≡ true → (y : Request) → In y q → f y ≡ true
unfolding all
all_in f [] e y i = absurd i
all_in f (x ∷ xs) e y (inl h) = ap f h ∙ (both_true (f x) (all f xs) e).0
all_in f (x ∷ xs) e y (inr i) = all_in f xs (both_true (f x) (all f xs) e).1 y i

-- a request for a clock, to count its place
abbrev own : ℕ → Request
own i = record { clock = i; ticks = record { low = 0; high = 0 }; priority = pos 0; index = 0 }

-- requests for fifteen clocks, one at most for each
fifteen : (i : ℕ) → i < 16 → (l : List Request) → ((y : Request) → In y l → y.clock < 16) → ((y : Request) → In y l → y.clock ≡ i → ⊥)
    → ((k : ℕ) → count_for k l ≤ 1) → length l < 16
fifteen i h l below others few = at-most 16 (own i ∷ l) within once
  where
    within : (y : Request) → In y (own i ∷ l) → y.clock < 16
    within y (inl e) = rw e h
    within y (inr j) = below y j

    none_for : keep_if (is_for i) l ≡ []
    none_for =
        keep_nothing (is_for i) l
        (λ y j. by_test (eqb y.clock i) (λ t. absurd (others y j (eqb-true y.clock i t))) (λ t. t))

    once : (k : ℕ) → count_for k (own i ∷ l) ≤ 1
    once k =
        by_test (eqb i k)
        (λ t.
        let none : keep_if (is_for k) l ≡ [] = subst (λ (j : ℕ). keep_if (is_for j) l ≡ []) (eqb-true i k t) none_for in
        rw (t, none) (omega arith))
        (λ t. rw t (few k))

module _ (stream : List ℕ) (n : ℕ) (s : EngineState) (v : valid_state stream n s ≡ true) where
  abbrev p : SharedState
  p = s.shared

  abbrev q : List Request
  q = queued_requests p

  abbrev event_of : ℕ → ScheduledEvent
  event_of k = (slot_at s k).clock.scheduled_event_id

  valid-queue : (all (valid_request s) q ≡ true) × (distinct q ≡ true)
  unfolding valid_state valid_queue
  valid-queue =
      let a = both_true (all valid_slot s.slots) _ v in
      let b = both_true (valid_queue s) (valid_shared stream n p) a.1 in
      let c = both_true (leb p.queued 16) _ b.0 in
      both_true (all (valid_request s) q) (distinct q) c.1

  record Named (y : Request) : Type 0 where
    below : y.clock < 16
    event : (event_of y.clock).present ≡ true
    index : (event_of y.clock).index ≡ y.index

  named : (y : Request) → In y q → Named y
  unfolding valid_request
  named y i =
      let a = both_true (ltb y.clock 16) _ (all_in (valid_request s) q valid-queue.0 y i) in
      let b = both_true (slot_at s y.clock).present _ a.1 in
      let c = both_true (event_of y.clock).present _ b.1 in
      let d = both_true (eqb (event_of y.clock).index y.index) _ c.1 in
      record { below = ltb-true _ _ a.0; event = c.0; index = eqb-true _ _ d.0 }

  one_each : (k : ℕ) → count_for k q ≤ 1
  one_each k =
      go (keep_if (is_for k) q)
      (λ y i. (in_keep (is_for k) y q i, eqb-true y.clock k (keep_sat (is_for k) y q i)))
      (keep_distinct (is_for k) q valid-queue.1)
    where
      go : (l : List Request) → ((y : Request) → In y l → In y q × (y.clock ≡ k)) → distinct l ≡ true → length l ≤ 1
      go [] f d = omega arith
      go (x ∷ []) f d = omega arith
      go (x ∷ y ∷ zs) f d =
          let a = f x (inl refl) in
          let b = f y (inr (inl refl)) in
          absurd
          (distinct_twice x y zs d
          (sym (named x a.0).index ∙ ap (λ (m : ℕ). (event_of m).index) (a.1 ∙ sym b.1) ∙ (named y b.0).index))

  module _ (sixteen : length p.queue ≡ 16) (i : ℕ) (h : i < 16) where
    -- the clock's own request is gone
    after_withdrawal : is_withdrawn p (event_of i) ≡ true → length (without (event_of i).index q) < 16
    unfolding without
    after_withdrawal t =
        let keep = not_at (event_of i).index in
        fifteen i h (keep_if keep q) (λ y j. (named y (in_keep keep y q j)).below)
        (λ y j e.
        true≢false
        (sym (keep_sat keep y q j)
        ∙ not_at_same (event_of i).index y
        (sym (named y (in_keep keep y q j)).index ∙ ap (λ (m : ℕ). (event_of m).index) e)))
        (λ k.
        let short = keep_short keep (keep_if (is_for k) q) in
        let few = one_each k in
        rw (keep_comm (is_for k) keep q) (omega arith))

    -- or it was not there
    without_withdrawal : is_withdrawn p (event_of i) ≡ false → length q < 16
    without_withdrawal t =
        fifteen i h q (λ y j. (named y j).below)
        (λ y j e.
        let m = ap (λ (m : ℕ). event_of m) (sym e) in
        let there : is_queued (event_of i).index q ≡ true =
        ap (λ (x : ℕ). is_queued x q) (ap (λ (x : ScheduledEvent). x.index) m ∙ (named y j).index) ∙ in_there y q j in
        let present : (event_of i).present ≡ true = ap (λ (x : ScheduledEvent). x.present) m ∙ (named y j).event in
        true≢false (sym (rw (present, there)) ∙ t))
        one_each

    own_withdrawn : (withdraw p (event_of i)).queued < 16
    own_withdrawn =
        by_test (is_withdrawn p (event_of i)) (λ t. rw t (after_withdrawal t))
        (λ t.
        let few = without_withdrawal t in
        let l = queued-length p.queue p.queued sixteen in
        let most = (valid_within stream n s v).queued in
        rw t (omega arith))

    module _ (now : Float) (censor : Censor) (index : ℕ) where
      pub rescheduled_room : (withdraw p (scheduling.reschedule (slot_at s i).clock now censor index).withdrawn).queued < 16
      rescheduled_room = rw (reschedule_requests (slot_at s i).clock now censor index).withdraws own_withdrawn

      pub resumed_room : (withdraw p (scheduling.resume (slot_at s i).clock now censor index).withdrawn).queued < 16
      resumed_room = rw (resume_requests (slot_at s i).clock now censor index).withdraws own_withdrawn
