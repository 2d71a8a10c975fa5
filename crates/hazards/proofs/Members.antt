-- The elements of a list, and their places.
use mathlib.Core.Path.{◌≡◌}
use mathlib.Core.Logic.{◌⊎◌, inl, inr}
use mathlib.Core.List.{List, [], ◌∷◌, ◌++◌}
use mathlib.Core.Option.{some}
use Prim.Native.Nat.{ℕ, zero, suc}
use native.Mathlib.Omega.{arith}
use lib.ListN.{get_elem?}

module _ {A : Type 0} where
  abbrev pub Member : A → List A → Type 0
  Member x [] = ⊥
  Member x (y ∷ ys) = (x ≡ y) ⊎ Member x ys

  pub at_place : (x : A) (l : List A) → Member x l → (place : ℕ) × (get_elem? l place ≡ some x)
  at_place x [] p = absurd p
  at_place x (y ∷ ys) (inl e) = (0, rw e)
  at_place x (y ∷ ys) (inr p) = let h = at_place x ys p in (suc h.0, h.1)

  pub of_place : (x : A) (l : List A) (place : ℕ) → get_elem? l place ≡ some x → Member x l
  of_place x [] place e = let z : ◌≡◌ {A = ℕ} 0 1 = cc in omega arith
  of_place x (y ∷ ys) zero e = let h : x ≡ y = cc in inl h
  of_place x (y ∷ ys) (suc place) e = inr (of_place x ys place e)

  -- one of two lists, joined
  pub member_joined : (x : A) (l r : List A) → Member x (l ++ r) → Member x l ⊎ Member x r
  member_joined x [] r p = inr p
  member_joined x (y ∷ ys) r (inl e) = inl (inl e)
  member_joined x (y ∷ ys) r (inr p) = elim (member_joined x ys r p) [ inl q ↦ inl (inr q) | inr q ↦ inr q ]
