-- How many requests a list holds for a clock, and how many in all: at most n where each is for a clock below n and none is the second for
-- its clock.
use mathlib.Core.Path.{◌≡◌, refl, sym, ◌∙◌, subst}
use mathlib.Core.Logic.{inl, inr}
use mathlib.Core.Bool.{Bool, true, false, not, cond}
use mathlib.Core.List.{List, [], ◌∷◌}
use Prim.Native.Nat.{ℕ, zero, suc, ◌+◌, ◌≤◌, ◌<◌}
use native.Mathlib.Omega.{arith}
use borrow.Author.Tests.{eqb-true, eqb-false, eq-eqb}
use lib.Dec.{eqb}
use lib.ListN.{length}
use Rattle.engine.specs.Queue.{keep_if, count_for}
use Rattle.engine.specs.declared.state.Request.{Request}
use Rattle.engine.proofs.RequestLists.{In, is_for, in_keep, keep_in, keep_sat, keep_all, not_for_same, not_for_other, none_left}
use Rattle.engine.proofs.RequestLists.{others_left, not_for}
use Rattle.clocks.proofs.Sound.{Each, none, next}

-- ---- a claim on each

pub each_in : {P : Request → Type 0} {q : List Request} → Each P q → (y : Request) → In y q → P y
each_in none y i = absurd i
each_in {P} (next p ps) y (inl e) = subst P (sym e) p
each_in (next p ps) y (inr i) = each_in ps y i

pub in_each : {P : Request → Type 0} (q : List Request) → ((y : Request) → In y q → P y) → Each P q
in_each [] h = none
in_each (x ∷ xs) h = next (h x (inl refl)) (in_each xs (λ y i. h y (inr i)))

-- ---- one clock's

pub counted : (k : ℕ) (y : Request) (q : List Request) → In y q → y.clock ≡ k → 0 < count_for k q
counted k y q i e = go (keep_if (is_for k) q) (keep_in (is_for k) y q (eq-eqb y.clock k e) i)
  where
    go : (l : List Request) → In y l → 0 < length l
    go [] j = absurd j
    go (x ∷ xs) j = omega arith

-- a request for the clock, where its count is not 0
pub record OneFor (k : ℕ) (q : List Request) : Type 0 where
  pub request : Request
  pub within : In request q
  pub clock : request.clock ≡ k

pub one_for : (k : ℕ) (q : List Request) → 0 < count_for k q → OneFor k q
one_for k q h = go (keep_if (is_for k) q) (λ y i. i) h
  where
    go : (l : List Request) → ((y : Request) → In y l → In y (keep_if (is_for k) q)) → 0 < length l → OneFor k q
    go [] f p = absurd (omega arith)
    go (x ∷ xs) f p = record {
      request = x;
      within = in_keep (is_for k) x q (f x (inl refl));
      clock = eqb-true x.clock k (keep_sat (is_for k) x q (f x (inl refl)));
    }

pub none_for : (k : ℕ) (q : List Request) → count_for k q ≡ 0 → keep_if (not_for k) q ≡ q
none_for k q e = keep_all (not_for k) q (λ y i. not_for_other k y (λ c. let h = counted k y q i c in omega arith))

-- ---- all of them

pub keep_short : (f : Request → Bool) (q : List Request) → length (keep_if f q) ≤ length q
keep_short f [] = omega arith
keep_short f (x ∷ xs) = go (f x) (keep_short f xs)
  where
    go : (b : Bool) → length (keep_if f xs) ≤ length xs → length (cond b (x ∷ keep_if f xs) (keep_if f xs)) ≤ length (x ∷ xs)
    go true ih = omega arith
    go false ih = omega arith

-- those for a clock, and the others
split : (k : ℕ) (q : List Request) → length q ≡ count_for k q + length (keep_if (not_for k) q)
split k [] = refl
split k (x ∷ xs) = go (eqb x.clock k) (split k xs)
  where
    go : (b : Bool) → length xs ≡ count_for k xs + length (keep_if (not_for k) xs)
        → suc (length xs) ≡ length (cond b (x ∷ keep_if (is_for k) xs) (keep_if (is_for k) xs))
        + length (cond (not b) (x ∷ keep_if (not_for k) xs) (keep_if (not_for k) xs))
    go true ih = omega arith
    go false ih = omega arith

pub at-most : (n : ℕ) (q : List Request) → ((y : Request) → In y q → y.clock < n) → ((k : ℕ) → count_for k q ≤ 1) → length q ≤ n
at-most zero [] below one = omega arith
at-most zero (x ∷ xs) below one = let h : x.clock < 0 = below x (inl refl) in absurd (omega arith)
at-most (suc n) q below one =
    let rest = at-most n (keep_if (not_for n) q) lower fewer in
    omega (arith, split n q, one n)
  where
    lower : (y : Request) → In y (keep_if (not_for n) q) → y.clock < n
    lower y i = go (eqb y.clock n) refl
      where
        go : (b : Bool) → eqb y.clock n ≡ b → y.clock < n
        go true e = let z : ◌≡◌ {A = Bool} true false = sym (keep_sat (not_for n) y q i) ∙ not_for_same n y (eqb-true y.clock n e) in
            let z' : ◌≡◌ {A = ℕ} 0 1 = cc in absurd (omega arith)
        go false e = let h = below y (in_keep (not_for n) y q i) in let o = eqb-false y.clock n e in omega (arith, o)

    fewer : (k : ℕ) → count_for k (keep_if (not_for n) q) ≤ 1
    fewer k = go (eqb k n) refl
      where
        go : (b : Bool) → eqb k n ≡ b → count_for k (keep_if (not_for n) q) ≤ 1
        go true e = rw (eqb-true k n e, none_left n q) (omega arith)
        go false e = rw (others_left k n q (eqb-false k n e)) (one k)
