-- Lists of requests of which no two share an index: parts of them, and the request with an index.
use mathlib.Core.Path.{◌≡◌, refl, sym, ◌∙◌, ap}
use mathlib.Core.Logic.{inl, inr}
use mathlib.Core.Bool.{Bool, true, false, not, cond, true≢false}
use mathlib.Core.List.{List, [], ◌∷◌}
use Prim.Native.Nat.{ℕ}
use borrow.Author.Tests.{eq-eqb, ne_eqb, not-true}
use lib.Dec.{eqb}
use Rattle.hazards.proofs.Cases.{by_test, both_true}
use Rattle.engine.specs.Queue.{keep_if, is_queued}
use Rattle.engine.specs.Validation.{distinct}
use Rattle.engine.specs.declared.state.Request.{Request}
use Rattle.engine.proofs.RequestLists.{In, in_keep}

-- ---- whether a request with an index is there

pub in_there : (y : Request) (q : List Request) → In y q → is_queued y.index q ≡ true
unfolding is_queued
in_there y [] i = absurd i
in_there y (x ∷ xs) (inl e) = rw (eq-eqb x.index y.index (ap (λ (r : Request). r.index) (sym e)))
in_there y (x ∷ xs) (inr i) =
    by_test (eqb x.index y.index) (λ e. rw e) (λ e. rw e (in_there y xs i))

pub not_there : (index : ℕ) (q : List Request) → ((y : Request) → In y q → y.index ≡ index → ⊥) → is_queued index q ≡ false
unfolding is_queued
not_there index [] h = refl
not_there index (x ∷ xs) h = rw (ne_eqb x.index index (h x (inl refl))) (not_there index xs (λ y i. h y (inr i)))

-- ---- what distinct says of the first

record Distinct (x : Request) (xs : List Request) : Type 0 where
  first : is_queued x.index xs ≡ false
  rest : distinct xs ≡ true

distinct_first : (x : Request) (xs : List Request) → distinct (x ∷ xs) ≡ true → Distinct x xs
unfolding distinct
distinct_first x xs e =
    let b = both_true (not (is_queued x.index xs)) (distinct xs) e in
    record { first = not-true (is_queued x.index xs) b.0; rest = b.1 }

distinct_cons : (x : Request) (xs : List Request) → is_queued x.index xs ≡ false → distinct xs ≡ true → distinct (x ∷ xs) ≡ true
unfolding distinct
distinct_cons x xs e f = rw (e, f)

there_not : (y : Request) (q : List Request) (index : ℕ) → is_queued index q ≡ false → In y q → y.index ≡ index → ⊥
there_not y q index e i h = true≢false (sym (in_there y q i) ∙ (rw h e))

pub distinct_twice : (x y : Request) (zs : List Request) → distinct (x ∷ y ∷ zs) ≡ true → x.index ≡ y.index → ⊥
distinct_twice x y zs d e = there_not y (y ∷ zs) x.index (distinct_first x (y ∷ zs) d).first (inl refl) (sym e)

-- two with one index are the same request
pub one_request : (q : List Request) (x y : Request) → distinct q ≡ true → In x q → In y q → x.index ≡ y.index → x ≡ y
one_request [] x y d i j e = absurd i
one_request (z ∷ zs) x y d (inl p) (inl q) e = p ∙ sym q
one_request (z ∷ zs) x y d (inl p) (inr j) e =
    absurd (there_not y zs z.index (distinct_first z zs d).first j (sym e ∙ ap (λ (r : Request). r.index) p))
one_request (z ∷ zs) x y d (inr i) (inl q) e =
    absurd (there_not x zs z.index (distinct_first z zs d).first i (e ∙ ap (λ (r : Request). r.index) q))
one_request (z ∷ zs) x y d (inr i) (inr j) e = one_request zs x y (distinct_first z zs d).rest i j e

-- ---- parts

pub keep_distinct : (f : Request → Bool) (q : List Request) → distinct q ≡ true → distinct (keep_if f q) ≡ true
keep_distinct f [] d = d
keep_distinct f (x ∷ xs) d = go (f x) (keep_distinct f xs (distinct_first x xs d).rest)
  where
    go : (b : Bool) → distinct (keep_if f xs) ≡ true → distinct (cond b (x ∷ keep_if f xs) (keep_if f xs)) ≡ true
    go false ih = ih
    go true ih =
        distinct_cons x (keep_if f xs)
        (not_there x.index (keep_if f xs) (λ y i. there_not y xs x.index (distinct_first x xs d).first (in_keep f y xs i))) ih
