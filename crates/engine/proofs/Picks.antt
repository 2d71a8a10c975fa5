-- The earliest of a list of requests, and the earliest of the ledger's pending ones: each comes after none of its candidates, so the two
-- are the same where the candidates are and no two of them share an index.
use Prim.Native.Nat.{ℕ, zero, suc, ◌<◌}
use native.Mathlib.Omega.{arith}
use mathlib.Core.Path.{◌≡◌, refl, ap, subst}
use mathlib.Core.Logic.{◌⊎◌, inl, inr}
use mathlib.Core.Bool.{Bool, true, false, cond}
use mathlib.Core.List.{List, [], ◌∷◌}
use mathlib.Core.Option.{Option, none, some}
use lib.Dec.{ltb, eqb}
use borrow.Author.Tests.{ltb-true, ltb-false, eqb-true, eqb-false}
use Rattle.engine.specs.Queue.{comes_first, earlier_of, next_request}
use Rattle.engine.specs.Ledger.{Row, next_pending}
use Rattle.engine.specs.declared.state.Request.{Request}
use Rattle.engine.proofs.RequestLists.{In}
use Rattle.engine.proofs.RequestOrder.{NotAfter, first_not_after, not_after_self, not_after_trans, one_index}

-- one of the candidates P that comes after none of them; none where there is no candidate
abbrev pub Best : Option Request → (Request → Type 0) → Type 0
Best none P = (y : Request) → P y → ⊥
Best (some m) P = P m × ((y : Request) → P y → NotAfter m y)

pub best-map : (o : Option Request) (P Q : Request → Type 0) → ((y : Request) → P y → Q y) → ((y : Request) → Q y → P y) → Best o P
    → Best o Q
best-map none P Q f g h = λ y q. h y (g y q)
best-map (some m) P Q f g h = (f m h.0, λ y q. h.1 y (g y q))

either : {A B C : Type 0} → (A → C) → (B → C) → A ⊎ B → C
either f g (inl a) = f a
either f g (inr b) = g b

pub earlier_best : (a b : Option Request) (P Q : Request → Type 0) → Best a P → Best b Q → Best (earlier_of a b) (λ y. P y ⊎ Q y)
earlier_best none none P Q h k = λ y. either (h y) (k y)
earlier_best none (some n) P Q h k = (inr k.0, λ y. either (λ p. absurd (h y p)) (k.1 y))
earlier_best (some m) none P Q h k = (inl h.0, λ y. either (h.1 y) (λ q. absurd (k y q)))
earlier_best (some m) (some n) P Q h k = go (comes_first n m) refl
  where
    go : (t : Bool) → comes_first n m ≡ t → Best (cond t (some n) (some m)) (λ y. P y ⊎ Q y)
    go true e = (inr k.0, λ y. either (λ p. not_after_trans n m y (first_not_after n m e) (h.1 y p)) (k.1 y))
    go false e = (inl h.0, λ y. either (h.1 y) (λ q. not_after_trans m n y e (k.1 y q)))

pub next_best : (q : List Request) → Best (next_request q) (λ y. In y q)
unfolding next_request
next_best [] = λ y p. p
next_best (x ∷ xs) =
    earlier_best (some x) (next_request xs) (λ y. y ≡ x) (λ y. In y xs) (refl, λ y e. rw e (not_after_self x)) (next_best xs)

-- the request is pending for a clock below n
abbrev pub PendingBelow : (ℕ → Row) → ℕ → Request → Type 0
PendingBelow f n y = (k : ℕ) × (k < n) × ((f k).pending ≡ some y)

best_own : (o : Option Request) → Best o (λ y. o ≡ some y)
best_own none = λ y e. let z : ◌≡◌ {A = ℕ} 0 1 = cc in omega arith
best_own (some m) = (refl, λ y e. let q : m ≡ y = cc in subst (λ (z : Request). NotAfter m z) q (not_after_self m))

below : (k n : ℕ) → k < suc n → (k ≡ n → ⊥) → k < n
below k n h o = at (ltb k n) refl
  where
    at : (b : Bool) → ltb k n ≡ b → k < n
    at true e = ltb-true k n e
    at false e = absurd (o (omega (arith, ltb-false k n e)))

pub pending_best : (f : ℕ → Row) (n : ℕ) → Best (next_pending f n) (PendingBelow f n)
pending_best f zero = λ y p. let h : p.0 < 0 = p.1 in omega arith
pending_best f (suc n) =
    best-map (next_pending f (suc n)) (λ y. PendingBelow f n y ⊎ ((f n).pending ≡ some y)) (PendingBelow f (suc n)) to from
    (earlier_best (next_pending f n) (f n).pending (PendingBelow f n) (λ y. (f n).pending ≡ some y) (pending_best f n)
    (best_own (f n).pending))
  where
    to : (y : Request) → PendingBelow f n y ⊎ ((f n).pending ≡ some y) → PendingBelow f (suc n) y
    to y (inl p) = (p.0, (let h : p.0 < n = p.1 in omega arith), p.2)
    to y (inr e) = (n, omega arith, e)

    from : (y : Request) → PendingBelow f (suc n) y → PendingBelow f n y ⊎ ((f n).pending ≡ some y)
    from y p = at (eqb p.0 n) refl
      where
        at : (b : Bool) → eqb p.0 n ≡ b → PendingBelow f n y ⊎ ((f n).pending ≡ some y)
        at true e = inr (subst (λ (k : ℕ). (f k).pending ≡ some y) (eqb-true p.0 n e) p.2)
        at false e = inl (p.0, below p.0 n p.1 (eqb-false p.0 n e), p.2)

-- two picks among the same candidates, of which no two share an index, are the same
pub best_same : (o : Option Request) (r : Request) (P : Request → Type 0) → ((x y : Request) → P x → P y → x.index ≡ y.index → x ≡ y)
    → Best o P → Best (some r) P → o ≡ some r
best_same none r P d h k = absurd (h r k.0)
best_same (some m) r P d h k = ap some (d m r h.0 k.0 (one_index m r (h.1 r k.0) (k.1 m h.0)))
