-- A ledger and a queue that belong together: what the ledger holds pending is what is queued, and its rows balance. Each entry keeps them
-- together, and the ledger's earliest pending request is the queue's earliest.
use Prim.Native.Nat.{ℕ, ◌+◌, ◌≤◌, ◌<◌}
use native.Mathlib.Omega.{arith}
use mathlib.Core.Path.{◌≡◌, refl, sym, ap, ◌∙◌, subst}
use mathlib.Core.Logic.{◌⊎◌, inl, inr}
use mathlib.Core.Bool.{Bool, true, false, cond}
use mathlib.Core.List.{List, [], ◌∷◌, ◌++◌, append-nil}
use mathlib.Core.Option.{Option, none, some}
use lib.Dec.{eqb}
use lib.IntN.{ℤ}
use lib.ListN.{length}
use borrow.Author.Tests.{eqb-true, eqb-false, eq-eqb, ne_eqb}
use Rattle.clocks.specs.declared.ticks.Ticks.{Ticks}
use Rattle.engine.specs.Queue.{next_request, keep_if, count_for}
use Rattle.engine.specs.Ledger.{Row, Ledger, empty_ledger, next_pending, withdrawn_row, requested_row, delivered_row, record_withdrawal}
use Rattle.engine.specs.Ledger.{record_request, record_delivery}
use Rattle.engine.specs.declared.state.Request.{Request}
use Rattle.engine.proofs.RequestLists.{not_for}
use Rattle.engine.proofs.RequestLists.{In, is_for, not_at, keep-cons-true, keep-cons-false, in_keep, keep_in, keep_comm, keep_append}
use Rattle.engine.proofs.RequestLists.{keep_all, keep_sat, in-append, length-nil, none_left, others_left, not_at_same, not_at_other}
use Rattle.engine.proofs.Picks.{Best, best-map, best_same, next_best, PendingBelow, pending_best}

abbrev to_list : Option Request → List Request
to_list none = []
to_list (some x) = x ∷ []

pub record RowOk (l : List Request) (r : Row) : Type 0 where
  pub link : l ≡ to_list r.pending
  pub sum : r.made ≡ r.withdrawn + r.delivered + length l

pub record Linked (q : List Request) (m : ℕ) (b : Ledger) : Type 0 where
  pub rows : (k : ℕ) → RowOk (keep_if (is_for k) q) (b.rows k)
  pub next : m ≡ b.all
  pub fresh : (y : Request) → In y q → y.index < m
  pub clocks : (y : Request) → In y q → y.clock < 16
  pub distinct : (x y : Request) → In x q → In y q → x.index ≡ y.index → x ≡ y

at-most : (o : Option Request) → length (to_list o) ≤ 1
at-most none = omega arith
at-most (some x) = omega arith

pub row_one : (l : List Request) (r : Row) → RowOk l r → length l ≤ 1
row_one l r h = subst (λ (x : List Request). length x ≤ 1) (sym h.link) (at-most r.pending)

pub linked_empty : Linked [] 0 empty_ledger
linked_empty =
    record {
      rows = λ k. record { link = refl; sum = refl };
      next = refl;
      fresh = λ y h. absurd h;
      clocks = λ y h. absurd h;
      distinct = λ x y h. absurd h;
    }

pub linked_withdrawal : (q : List Request) (m : ℕ) (b : Ledger) (k : ℕ) → Linked q m b → 0 < count_for k q
    → Linked (keep_if (not_for k) q) m (record_withdrawal k b)
linked_withdrawal q m b k h p =
    record {
      rows = λ j. at j (eqb j k) refl;
      next = h.next;
      fresh = λ y i. h.fresh y (in_keep (not_for k) y q i);
      clocks = λ y i. h.clocks y (in_keep (not_for k) y q i);
      distinct = λ x y i j. h.distinct x y (in_keep (not_for k) x q i) (in_keep (not_for k) y q j);
    }
  where
    at : (j : ℕ) (t : Bool) → eqb j k ≡ t
        → RowOk (keep_if (is_for j) (keep_if (not_for k) q))
        (cond t (withdrawn_row (b.rows k)) (b.rows j))
    at j true e =
        let ej : j ≡ k = eqb-true j k e in
        let nil : keep_if (is_for j) (keep_if (not_for k) q) ≡ [] = rw ej (none_left k q) in
        let l : length (keep_if (is_for j) (keep_if (not_for k) q)) ≡ 0 = ap length nil in
        let o : length (keep_if (is_for k) q) ≤ 1 = row_one (keep_if (is_for k) q) (b.rows k) (h.rows k) in
        let s : (b.rows k).made ≡ (b.rows k).withdrawn + (b.rows k).delivered + length (keep_if (is_for k) q) = (h.rows k).sum in
        record { link = nil; sum = omega arith }
    at j false e =
        subst (λ (l : List Request). RowOk l (b.rows j)) (sym (others_left j k q (eqb-false j k e))) (h.rows j)

pub linked_request : (q : List Request) (m : ℕ) (b : Ledger) (k : ℕ) (t : Ticks) (p : ℤ) → Linked q m b → count_for k q ≡ 0 → k < 16
    → Linked (q ++ (record { clock = k; ticks = t; priority = p; index = m } ∷ [])) (m + 1) (record_request k t p b)
linked_request q m b k t p h e0 hk =
    record {
      rows = λ j. at j (eqb j k) refl;
      next = ap (λ (x : ℕ). x + 1) h.next;
      fresh = λ y i. fresh' y (in-append y q new i);
      clocks = λ y i. clocks' y (in-append y q new i);
      distinct = λ x y i j. distinct' x y (in-append x q new i) (in-append y q new j);
    }
  where
    new : Request
    new = record { clock = k; ticks = t; priority = p; index = m }

    fresh' : (y : Request) → In y q ⊎ (y ≡ new) → y.index < m + 1
    fresh' y (inl i) = omega (arith, h.fresh y i)
    fresh' y (inr e) = let d : y.index ≡ m = ap (λ (r : Request). r.index) e in omega arith

    clocks' : (y : Request) → In y q ⊎ (y ≡ new) → y.clock < 16
    clocks' y (inl i) = h.clocks y i
    clocks' y (inr e) = let d : y.clock ≡ k = ap (λ (r : Request). r.clock) e in omega arith

    distinct' : (x y : Request) → In x q ⊎ (x ≡ new) → In y q ⊎ (y ≡ new) → x.index ≡ y.index → x ≡ y
    distinct' x y (inl i) (inl j) e = h.distinct x y i j e
    distinct' x y (inl i) (inr f) e = let d : y.index ≡ m = ap (λ (r : Request). r.index) f in absurd (omega (arith, h.fresh x i))
    distinct' x y (inr f) (inl j) e = let d : x.index ≡ m = ap (λ (r : Request). r.index) f in absurd (omega (arith, h.fresh y j))
    distinct' x y (inr f) (inr g) e = f ∙ sym g

    pending : Request
    pending = record { clock = k; ticks = t; priority = p; index = b.all }

    at : (j : ℕ) (u : Bool) → eqb j k ≡ u
        → RowOk (keep_if (is_for j) (q ++ (new ∷ [])))
        (cond u (requested_row (b.rows k) pending) (b.rows j))
    at j true e =
        let ej : j ≡ k = eqb-true j k e in
        let nil : keep_if (is_for j) q ≡ [] = ap (λ (x : ℕ). keep_if (is_for x) q) ej ∙ length-nil (keep_if (is_for k) q) e0 in
        let one : keep_if (is_for j) (new ∷ []) ≡ new ∷ [] = keep-cons-true (is_for j) new [] (eq-eqb k j (sym ej)) in
        let all : keep_if (is_for j) (q ++ (new ∷ [])) ≡ new ∷ [] =
        keep_append (is_for j) q (new ∷ []) ∙ ap (λ (l : List Request). l ++ keep_if (is_for j) (new ∷ [])) nil ∙ one in
        let l : length (keep_if (is_for j) (q ++ (new ∷ []))) ≡ 1 = ap length all in
        let s : (b.rows k).made ≡ (b.rows k).withdrawn + (b.rows k).delivered + length (keep_if (is_for k) q) = (h.rows k).sum in
        record { link = all ∙ ap (λ (x : ℕ). record { clock = k; ticks = t; priority = p; index = x } ∷ []) h.next; sum = omega arith }
    at j false e =
        let none' : keep_if (is_for j) (new ∷ []) ≡ [] = keep-cons-false (is_for j) new [] (ne_eqb k j (λ c. eqb-false j k e (sym c))) in
        let same : keep_if (is_for j) q ≡ keep_if (is_for j) (q ++ (new ∷ [])) =
        sym (keep_append (is_for j) q (new ∷ []) ∙ ap (λ (l : List Request). keep_if (is_for j) q ++ l) none'
        ∙ append-nil (keep_if (is_for j) q)) in
        subst (λ (l : List Request). RowOk l (b.rows j)) same (h.rows j)

in-to_list : (o : Option Request) (y : Request) → In y (to_list o) → o ≡ some y
in-to_list none y i = absurd i
in-to_list (some x) y (inl e) = ap some (sym e)
in-to_list (some x) y (inr i) = absurd i

to_list-in : (o : Option Request) (y : Request) → o ≡ some y → In y (to_list o)
to_list-in o y e = subst (λ (x : Option Request). In y (to_list x)) (sym e) (inl refl)

-- what is queued is what is pending
pending_of : (q : List Request) (m : ℕ) (b : Ledger) → Linked q m b → (y : Request) → In y q → (b.rows y.clock).pending ≡ some y
pending_of q m b h y i =
    in-to_list (b.rows y.clock).pending y
    (subst (In y) (h.rows y.clock).link (keep_in (is_for y.clock) y q (eq-eqb y.clock y.clock refl) i))

queued-of : (q : List Request) (m : ℕ) (b : Ledger) → Linked q m b → (y : Request) → PendingBelow b.rows 16 y → In y q
queued-of q m b h y w =
    in_keep (is_for w.0) y q (subst (In y) (sym (h.rows w.0).link) (to_list-in (b.rows w.0).pending y w.2))

-- so the ledger takes what the queue gives
pub same_pick : (q : List Request) (m : ℕ) (b : Ledger) (r : Request) → Linked q m b → next_request q ≡ some r
    → next_pending b.rows 16 ≡ some r
same_pick q m b r h e =
    best_same (next_pending b.rows 16) r (λ y. In y q) h.distinct
    (best-map (next_pending b.rows 16) (PendingBelow b.rows 16) (λ y. In y q) (queued-of q m b h)
    (λ y i. (y.clock, h.clocks y i, pending_of q m b h y i)) (pending_best b.rows 16))
    (subst (λ (o : Option Request). Best o (λ y. In y q)) e (next_best q))

pub linked_delivery : (q : List Request) (m : ℕ) (b : Ledger) (r : Request) → Linked q m b → next_request q ≡ some r
    → Linked (keep_if (not_at r.index) q) m (record_delivery b (some r))
linked_delivery q m b r h e =
    record {
      rows = λ j. at j (eqb j r.clock) refl;
      next = h.next;
      fresh = λ y i. h.fresh y (in_keep (not_at r.index) y q i);
      clocks = λ y i. h.clocks y (in_keep (not_at r.index) y q i);
      distinct = λ x y i j. h.distinct x y (in_keep (not_at r.index) x q i) (in_keep (not_at r.index) y q j);
    }
  where
    k : ℕ
    k = r.clock

    inq : In r q
    inq = (subst (λ (o : Option Request). Best o (λ y. In y q)) e (next_best q)).0

    at : (j : ℕ) (u : Bool) → eqb j k ≡ u
        → RowOk (keep_if (is_for j) (keep_if (not_at r.index) q))
        (cond u (delivered_row (b.rows k)) (b.rows j))
    at j true f =
        let ej : j ≡ k = eqb-true j k f in
        let only : keep_if (is_for k) q ≡ r ∷ [] = (h.rows k).link ∙ ap to_list (pending_of q m b h r inq) in
        let nil : keep_if (is_for j) (keep_if (not_at r.index) q) ≡ [] =
        keep_comm (is_for j) (not_at r.index) q
        ∙ ap (λ (x : ℕ). keep_if (not_at r.index) (keep_if (is_for x) q)) ej
        ∙ ap (keep_if (not_at r.index)) only
        ∙ keep-cons-false (not_at r.index) r [] (not_at_same r.index r refl) in
        let l : length (keep_if (is_for j) (keep_if (not_at r.index) q)) ≡ 0 = ap length nil in
        let o : length (keep_if (is_for k) q) ≡ 1 = ap length only in
        let s : (b.rows k).made ≡ (b.rows k).withdrawn + (b.rows k).delivered + length (keep_if (is_for k) q) = (h.rows k).sum in
        record { link = nil; sum = omega arith }
    at j false f =
        let same : keep_if (is_for j) q ≡ keep_if (is_for j) (keep_if (not_at r.index) q) =
        sym
        (keep_comm (is_for j) (not_at r.index) q
        ∙ keep_all (not_at r.index) (keep_if (is_for j) q)
        (λ y i.
        not_at_other r.index y
        (λ c.
        eqb-false j k f
        (sym (eqb-true y.clock j (keep_sat (is_for j) y q i))
        ∙ ap (λ (x : Request). x.clock) (h.distinct y r (in_keep (is_for j) y q i) inq c))))) in
        subst (λ (l : List Request). RowOk l (b.rows j)) same (h.rows j)

pub linked_at : (q q' : List Request) (m m' : ℕ) (b : Ledger) → q' ≡ q → m' ≡ m → Linked q m b → Linked q' m' b
linked_at q q' m m' b e f h =
    subst (λ (x : List Request). Linked x m' b) (sym e) (subst (λ (x : ℕ). Linked q x b) (sym f) h)
