-- Laws of `Each`: of a list put together, cut, mapped, or changed at a place.
use mathlib.Core.List.{List, ◌++◌, map}
use Prim.Native.Nat.{ℕ, zero, suc, ◌<◌}
use native.Mathlib.Omega.{arith}
use lib.ListN.{length, get_or, take, drop, set}
use Rattle.clocks.proofs.Sound.{Each, none, next}

module _ {A : Type 0} {P : A → Type 0} where
  pub each_append : {xs ys : List A} → Each P xs → Each P ys → Each P (xs ++ ys)
  each_append none q = q
  each_append (next p ps) q = next p (each_append ps q)

  pub each_take : (n : ℕ) {xs : List A} → Each P xs → Each P (take n xs)
  each_take zero none = none
  each_take zero (next p ps) = none
  each_take (suc n) none = none
  each_take (suc n) (next p ps) = next p (each_take n ps)

  pub each-drop : (n : ℕ) {xs : List A} → Each P xs → Each P (drop n xs)
  each-drop zero none = none
  each-drop zero (next p ps) = next p ps
  each-drop (suc n) none = none
  each-drop (suc n) (next p ps) = each-drop n ps

  pub each_set : (i : ℕ) (y : A) {xs : List A} → P y → Each P xs → Each P (set xs i y)
  each_set zero y q none = none
  each_set zero y q (next p ps) = next q ps
  each_set (suc i) y q none = none
  each_set (suc i) y q (next p ps) = next p (each_set i y q ps)

  pub each_at : (i : ℕ) (d : A) {xs : List A} → i < length xs → Each P xs → P (get_or xs i d)
  each_at i d h none = absurd (omega arith)
  each_at zero d h (next p ps) = p
  each_at (suc i) d h (next p ps) = each_at i d (omega arith) ps

  pub each_map : {Q : A → Type 0} (f : A → A) → ((x : A) → P x → Q (f x)) → {xs : List A} → Each P xs → Each Q (map f xs)
  each_map f h none = none
  each_map f h (next {x} p ps) = next (h x p) (each_map f h ps)
