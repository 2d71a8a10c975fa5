-- Lists of requests: which are in a list, and which of them a test keeps.
use Prim.Native.Nat.{ℕ}
use mathlib.Core.Path.{◌≡◌, refl, sym, ap, ◌∙◌, subst}
use mathlib.Core.Logic.{◌⊎◌, inl, inr}
use mathlib.Core.Bool.{Bool, true, false, not, cond}
use mathlib.Core.List.{List, [], ◌∷◌, ◌++◌}
use native.Mathlib.Omega.{arith}
use lib.Dec.{eqb}
use lib.ListN.{length}
use borrow.Author.Tests.{eqb-true, eq-eqb, ne_eqb}
use Rattle.hazards.proofs.Members.{Member}
use Rattle.engine.specs.Queue.{keep_if}
use Rattle.engine.specs.declared.state.Request.{Request}

-- x is one of these
abbrev pub In : Request → List Request → Type 0
In x l = Member x l

-- a request for a clock, one for another, and one with another index than the given
abbrev pub is_for : ℕ → Request → Bool
is_for k r = eqb r.clock k

abbrev pub not_for : ℕ → Request → Bool
not_for k r = not (eqb r.clock k)

abbrev pub not_at : ℕ → Request → Bool
not_at i r = not (eqb r.index i)

pub keep-cons-true : (f : Request → Bool) (x : Request) (xs : List Request) → f x ≡ true → keep_if f (x ∷ xs) ≡ x ∷ keep_if f xs
keep-cons-true f x xs e = ap (λ (b : Bool). cond b (x ∷ keep_if f xs) (keep_if f xs)) e

pub keep-cons-false : (f : Request → Bool) (x : Request) (xs : List Request) → f x ≡ false → keep_if f (x ∷ xs) ≡ keep_if f xs
keep-cons-false f x xs e = ap (λ (b : Bool). cond b (x ∷ keep_if f xs) (keep_if f xs)) e

pub in_keep : (f : Request → Bool) (y : Request) (q : List Request) → In y (keep_if f q) → In y q
in_keep f y [] h = h
in_keep f y (x ∷ xs) h = go (f x) (in_keep f y xs) h
  where
    go : (b : Bool) → (In y (keep_if f xs) → In y xs) → In y (cond b (x ∷ keep_if f xs) (keep_if f xs)) → In y (x ∷ xs)
    go true ih (inl e) = inl e
    go true ih (inr h) = inr (ih h)
    go false ih h = inr (ih h)

pub keep_in : (f : Request → Bool) (y : Request) (q : List Request) → f y ≡ true → In y q → In y (keep_if f q)
keep_in f y [] e h = h
keep_in f y (x ∷ xs) e (inl p) =
    subst (λ (l : List Request). In y l) (sym (keep-cons-true f x xs (ap f (sym p) ∙ e))) (inl p)
keep_in f y (x ∷ xs) e (inr h) = go (f x) (keep_in f y xs e h)
  where
    go : (b : Bool) → In y (keep_if f xs) → In y (cond b (x ∷ keep_if f xs) (keep_if f xs))
    go true ih = inr ih
    go false ih = ih

pub keep_comm : (f g : Request → Bool) (q : List Request) → keep_if f (keep_if g q) ≡ keep_if g (keep_if f q)
keep_comm f g [] = refl
keep_comm f g (x ∷ xs) = go (f x) refl (g x) refl (keep_comm f g xs)
  where
    go : (a : Bool) → f x ≡ a → (b : Bool) → g x ≡ b → keep_if f (keep_if g xs) ≡ keep_if g (keep_if f xs)
        → keep_if f (cond b (x ∷ keep_if g xs) (keep_if g xs)) ≡ keep_if g (cond a (x ∷ keep_if f xs) (keep_if f xs))
    go true ea true eb ih =
        keep-cons-true f x (keep_if g xs) ea ∙ ap (λ (l : List Request). x ∷ l) ih ∙ sym (keep-cons-true g x (keep_if f xs) eb)
    go true ea false eb ih = ih ∙ sym (keep-cons-false g x (keep_if f xs) eb)
    go false ea true eb ih = keep-cons-false f x (keep_if g xs) ea ∙ ih
    go false ea false eb ih = ih

pub keep_append : (f : Request → Bool) (q r : List Request) → keep_if f (q ++ r) ≡ keep_if f q ++ keep_if f r
keep_append f [] r = refl
keep_append f (x ∷ xs) r = go (f x) (keep_append f xs r)
  where
    go : (b : Bool) → keep_if f (xs ++ r) ≡ keep_if f xs ++ keep_if f r
        → cond b (x ∷ keep_if f (xs ++ r)) (keep_if f (xs ++ r)) ≡ cond b (x ∷ keep_if f xs) (keep_if f xs) ++ keep_if f r
    go true ih = ap (λ (l : List Request). x ∷ l) ih
    go false ih = ih

-- a filter that keeps each element keeps the list
pub keep_all : (f : Request → Bool) (q : List Request) → ((y : Request) → In y q → f y ≡ true) → keep_if f q ≡ q
keep_all f [] h = refl
keep_all f (x ∷ xs) h = keep-cons-true f x xs (h x (inl refl)) ∙ ap (λ (l : List Request). x ∷ l) (keep_all f xs (λ y p. h y (inr p)))

-- two tests that agree on each element keep the same
pub keep_same : (f g : Request → Bool) (q : List Request) → ((y : Request) → In y q → f y ≡ g y) → keep_if f q ≡ keep_if g q
keep_same f g [] h = refl
keep_same f g (x ∷ xs) h = rw (h x (inl refl), keep_same f g xs (λ y p. h y (inr p)))

pub keep_nothing : (f : Request → Bool) (q : List Request) → ((y : Request) → In y q → f y ≡ false) → keep_if f q ≡ []
keep_nothing f [] h = refl
keep_nothing f (x ∷ xs) h = keep-cons-false f x xs (h x (inl refl)) ∙ keep_nothing f xs (λ y p. h y (inr p))

pub keep_sat : (f : Request → Bool) (y : Request) (q : List Request) → In y (keep_if f q) → f y ≡ true
keep_sat f y [] h = absurd h
keep_sat f y (x ∷ xs) h = go (f x) refl (keep_sat f y xs) h
  where
    go : (b : Bool) → f x ≡ b → (In y (keep_if f xs) → f y ≡ true) → In y (cond b (x ∷ keep_if f xs) (keep_if f xs)) → f y ≡ true
    go true e ih (inl p) = ap f p ∙ e
    go true e ih (inr h) = ih h
    go false e ih h = ih h

pub in-append : (y : Request) (q : List Request) (z : Request) → In y (q ++ (z ∷ [])) → In y q ⊎ (y ≡ z)
in-append y [] z (inl e) = inr e
in-append y [] z (inr h) = absurd h
in-append y (x ∷ xs) z (inl e) = inl (inl e)
in-append y (x ∷ xs) z (inr h) = go (in-append y xs z h)
  where
    go : In y xs ⊎ (y ≡ z) → In y (x ∷ xs) ⊎ (y ≡ z)
    go (inl p) = inl (inr p)
    go (inr p) = inr p

pub not_for_same : (k : ℕ) (y : Request) → y.clock ≡ k → not_for k y ≡ false
not_for_same k y e = ap not (eq-eqb y.clock k e)

pub not_for_other : (k : ℕ) (y : Request) → (y.clock ≡ k → ⊥) → not_for k y ≡ true
not_for_other k y h = ap not (ne_eqb y.clock k h)

pub not_at_same : (i : ℕ) (y : Request) → y.index ≡ i → not_at i y ≡ false
not_at_same i y e = ap not (eq-eqb y.index i e)

pub not_at_other : (i : ℕ) (y : Request) → (y.index ≡ i → ⊥) → not_at i y ≡ true
not_at_other i y h = ap not (ne_eqb y.index i h)

pub length-nil : (l : List Request) → length l ≡ 0 → l ≡ []
length-nil [] e = refl
length-nil (x ∷ xs) e = absurd (omega arith)

-- ---- the requests for one clock, among those without a clock's

pub none_left : (k : ℕ) (q : List Request) → keep_if (is_for k) (keep_if (not_for k) q) ≡ []
none_left k q =
    keep_comm (is_for k) (not_for k) q
    ∙ keep_nothing (not_for k) (keep_if (is_for k) q) (λ y i. not_for_same k y (eqb-true y.clock k (keep_sat (is_for k) y q i)))

pub others_left : (j k : ℕ) (q : List Request) → (j ≡ k → ⊥) → keep_if (is_for j) (keep_if (not_for k) q) ≡ keep_if (is_for j) q
others_left j k q other =
    keep_comm (is_for j) (not_for k) q
    ∙ keep_all (not_for k) (keep_if (is_for j) q)
    (λ y i. not_for_other k y (λ e. other (sym (eqb-true y.clock j (keep_sat (is_for j) y q i)) ∙ e)))
