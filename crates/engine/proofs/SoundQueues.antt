-- A sound queue stays sound where a slot changes: the clock names what it named before, or nothing more, or a new request.
use mathlib.Core.Path.{◌≡◌, refl, sym, ◌∙◌, ap, subst}
use mathlib.Core.Logic.{◌⊎◌, inl, inr}
use mathlib.Core.Bool.{Bool, true, false, not, cond, true≢false}
use mathlib.Core.List.{List, [], ◌∷◌, ◌++◌}
use Prim.Native.Nat.{ℕ, ◌+◌, ◌≤◌}
use native.Mathlib.Omega.{arith}
use borrow.Author.Tests.{eqb-true, eqb-false, eq-eqb, ne_eqb}
use lib.Dec.{eqb}
use lib.ListN.{length, length-append}
use Rattle.clocks.specs.declared.clocks.ScheduledEvent.{ScheduledEvent}
use Rattle.clocks.specs.declared.clocks.Winner.{Winner}
use Rattle.hazards.proofs.Cases.{by_test}
use Rattle.engine.specs.Queue.{keep_if, without, count_for}
use Rattle.engine.specs.State.{empty_slot, ClockSlot}
use Rattle.engine.specs.declared.state.Request.{Request}
use Rattle.engine.proofs.SoundState.{names_request, SoundRequest, SoundQueue}
use Rattle.engine.proofs.RequestLists.{In, is_for, in_keep, keep_sat, keep_append, keep-cons-true, keep-cons-false, keep_same, not_for}
use Rattle.engine.proofs.RequestLists.{in-append, not_for_same, none_left, others_left}
use Rattle.engine.proofs.RequestCounts.{each_in, in_each, counted, at-most}
use Rattle.engine.proofs.DistinctIndices.{not_there, one_request, keep_distinct}
use Rattle.engine.proofs.IndexLaws.{distinct_more}

one_or_none : (b : Bool) → cond b 1 0 ≤ 1
one_or_none true = omega arith
one_or_none false = omega arith

module _ {slots : ℕ → ClockSlot} {count : ℕ} {q : List Request} (g : SoundQueue slots count q) where
  pub request-of : (y : Request) → In y q → SoundRequest slots count y
  request-of y i = each_in g.requests y i

  pub at_most_one : (k : ℕ) → count_for k q ≤ 1
  at_most_one k = rw (g.own k) (one_or_none (names_request (slots k)))

  pub at_most_16 : length q ≤ 16
  at_most_16 = at-most 16 q (λ y i. (request-of y i).clock) at_most_one

  pub unnamed_none : (k : ℕ) → names_request (slots k) ≡ false → count_for k q ≡ 0
  unnamed_none k e = g.own k ∙ ap (λ (b : Bool). cond b 1 0) e

  -- without a request, by its index or by its clock
  pub without_one : (r : Request) → In r q → without r.index q ≡ keep_if (not_for r.clock) q
  unfolding without
  without_one r i = keep_same (λ y. not (eqb y.index r.index)) (not_for r.clock) q
      (λ y j. ap not (go y j (eqb y.clock r.clock) refl))
    where
      go : (y : Request) → In y q → (b : Bool) → eqb y.clock r.clock ≡ b → eqb y.index r.index ≡ b
      go y j true e =
          let c : y.clock ≡ r.clock = eqb-true y.clock r.clock e in
          let m = (request-of y j).named in
          let n = (request-of r i).named in
          eq-eqb y.index r.index
          (ap (λ (x : ScheduledEvent). x.index) (sym m ∙ ap (λ (k : ℕ). (slots k).clock.scheduled_event_id) c ∙ n))
      go y j false e =
          ne_eqb y.index r.index
          (λ h. eqb-false y.clock r.clock e (ap (λ (x : Request). x.clock) (one_request q y r g.indices j i h)))

-- ---- a slot changes

-- the same clock is present or none is, and it names and holds the same
pub record SameSchedule (a b : ClockSlot) : Type 0 where
  pub present : a.present ≡ b.present
  pub event : a.clock.scheduled_event_id ≡ b.clock.scheduled_event_id
  pub winner : a.clock.current_winner ≡ b.clock.current_winner

moved : {slots slots' : ℕ → ClockSlot} {count count' : ℕ} {r : Request} → SameSchedule (slots' r.clock) (slots r.clock)
    → count ≤ count'
    → SoundRequest slots count r → SoundRequest slots' count' r
moved {r} e l g = record {
  clock = g.clock;
  present = e.present ∙ g.present;
  named = e.event ∙ g.named;
  winner = ap (λ (w : Winner). w.present) e.winner ∙ g.winner;
  index = let h = g.index in omega arith;
}

same-slot : {a b : ClockSlot} → a ≡ b → SameSchedule a b
same-slot e = record {
  present = ap (λ (s : ClockSlot). s.present) e;
  event = ap (λ (s : ClockSlot). s.clock.scheduled_event_id) e;
  winner = ap (λ (s : ClockSlot). s.clock.current_winner) e;
}

module _ {slots slots' : ℕ → ClockSlot} {count : ℕ} {q : List Request} (i : ℕ) (g : SoundQueue slots count q)
    (elsewhere : (j : ℕ) → (j ≡ i → ⊥) → slots' j ≡ slots j) where
  -- the clock names what it named
  pub queue_stays : SameSchedule (slots' i) (slots i) → SoundQueue slots' count q
  queue_stays e = record {
    requests = in_each q (λ y j. moved (everywhere y.clock) (omega arith) (request-of g y j));
    indices = g.indices;
    own = λ k. g.own k ∙ ap (λ (b : Bool). cond b 1 0) (sym (names k));
  }
    where
      everywhere : (k : ℕ) → SameSchedule (slots' k) (slots k)
      everywhere k = by_test (eqb k i) (λ t. rw (eqb-true k i t) e) (λ t. same-slot (elsewhere k (eqb-false k i t)))

      names : (k : ℕ) → names_request (slots' k) ≡ names_request (slots k)
      names k = rw ((everywhere k).present, (everywhere k).event)

  other_clock : (y : Request) → In y (keep_if (not_for i) q) → y.clock ≡ i → ⊥
  other_clock y j e = true≢false (sym (keep_sat (not_for i) y q j) ∙ not_for_same i y e)

  -- the clock names nothing, and its request is gone
  pub queue_drops : names_request (slots' i) ≡ false → SoundQueue slots' count (keep_if (not_for i) q)
  queue_drops e = record {
    requests =
        in_each (keep_if (not_for i) q)
        (λ y j. moved (same-slot (elsewhere y.clock (other_clock y j))) (omega arith) (request-of g y (in_keep (not_for i) y q j)));
    indices = keep_distinct (not_for i) q g.indices;
    own = λ k. by_test (eqb k i) (λ t. here k (eqb-true k i t)) (λ t. there k (eqb-false k i t));
  }
    where
      here : (k : ℕ) → k ≡ i → count_for k (keep_if (not_for i) q) ≡ cond (names_request (slots' k)) 1 0
      here k h = rw h (ap length (none_left i q) ∙ ap (λ (b : Bool). cond b 1 0) (sym e))

      there : (k : ℕ) → (k ≡ i → ⊥) → count_for k (keep_if (not_for i) q) ≡ cond (names_request (slots' k)) 1 0
      there k h = ap length (others_left k i q h) ∙ g.own k ∙ ap (λ (s : ClockSlot). cond (names_request s) 1 0) (sym (elsewhere k h))

  -- the clock named nothing, and names the next request, which is queued
  pub queue_adds : names_request (slots i) ≡ false → (r : Request) → r.clock ≡ i → r.index ≡ count → SoundRequest slots' (count + 1) r
      → SoundQueue slots' (count + 1) (q ++ (r ∷ []))
  queue_adds e r c m new = record {
    requests = in_each (q ++ (r ∷ [])) (λ y j. each y (in-append y q r j));
    indices = distinct_more q r g.indices (not_there r.index q (λ y j h. let l = (request-of g y j).index in omega arith));
    own = λ k. by_test (eqb k i) (λ t. here k (eqb-true k i t)) (λ t. there k (eqb-false k i t));
  }
    where
      each : (y : Request) → In y q ⊎ (y ≡ r) → SoundRequest slots' (count + 1) y
      each y (inr h) = subst (SoundRequest slots' (count + 1)) (sym h) new
      each y (inl j) =
          moved
          (same-slot (elsewhere y.clock (λ h. let z = counted i y q j h in let o = unnamed_none g i e in omega arith)))
          (omega arith) (request-of g y j)

      appended : (k : ℕ) → count_for k (q ++ (r ∷ [])) ≡ count_for k q + count_for k (r ∷ [])
      appended k = ap length (keep_append (is_for k) q (r ∷ [])) ∙ length-append (keep_if (is_for k) q) (keep_if (is_for k) (r ∷ []))

      here : (k : ℕ) → k ≡ i → count_for k (q ++ (r ∷ [])) ≡ cond (names_request (slots' k)) 1 0
      here k h =
          let ck : r.clock ≡ k = c ∙ sym h in
          let one : count_for k (r ∷ []) ≡ 1 = ap length (keep-cons-true (is_for k) r [] (eq-eqb r.clock k ck)) in
          let nothing : count_for k q ≡ 0 = rw h (unnamed_none g i e) in
          let named : names_request (slots' k) ≡ true = rw (← ck, new.present, new.named) in
          rw named (let a = appended k in omega arith)

      there : (k : ℕ) → (k ≡ i → ⊥) → count_for k (q ++ (r ∷ [])) ≡ cond (names_request (slots' k)) 1 0
      there k h =
          let nothing : count_for k (r ∷ []) ≡ 0 = ap length (keep-cons-false (is_for k) r [] (ne_eqb r.clock k (λ d. h (sym d ∙ c)))) in
          let a = appended k in
          let stays : count_for k (q ++ (r ∷ [])) ≡ count_for k q = omega arith in
          stays ∙ g.own k ∙ ap (λ (s : ClockSlot). cond (names_request s) 1 0) (sym (elsewhere k h))

-- its old request is gone, and the next one is queued for it
module _ {slots slots' : ℕ → ClockSlot} {count : ℕ} {q : List Request} (i : ℕ) (g : SoundQueue slots count q)
    (elsewhere : (j : ℕ) → (j ≡ i → ⊥) → slots' j ≡ slots j) where
  abbrev emptied : ℕ → ClockSlot
  emptied j = cond (eqb j i) empty_slot (slots j)

  pub queue_replaces : (r : Request) → r.clock ≡ i → r.index ≡ count → SoundRequest slots' (count + 1) r
      → SoundQueue slots' (count + 1) (keep_if (not_for i) q ++ (r ∷ []))
  queue_replaces r c m new =
      queue_adds {slots = emptied} i (queue_drops {slots' = emptied} i g others gone)
      (λ j h. elsewhere j h ∙ sym (others j h)) gone r c m new
    where
      others : (j : ℕ) → (j ≡ i → ⊥) → emptied j ≡ slots j
      others j h = rw (ne_eqb j i h)

      gone : names_request (emptied i) ≡ false
      gone = rw (eq-eqb i i refl)
