-- A list that is written over from its front, place by place.
use mathlib.Core.Path.{◌≡◌, sym, ◌∙◌, ap}
use mathlib.Core.List.{List, [], ◌∷◌, ◌++◌, append-nil}
use Prim.Native.Nat.{ℕ, suc, ◌+◌, ◌<◌}
use native.Mathlib.Numerals.{add-one}
use native.Mathlib.Omega.{arith}
use lib.ListN.{length, get_or, set, take, drop, replicate, length-replicate, replicate-append-replicate, drop_of_length-le}
use lib.Seq.{take-length, drop-cons, set_at, append_snoc, take-suc, length-take-le}

module _ {A : Type 0} where
  -- a store behind p, which replaced the front of d
  pub front-set : (p d : List A) (i : ℕ) (v : A) → length p ≡ i → i < length d → set (p ++ drop i d) i v ≡ p ++ (v ∷ []) ++ drop (i + 1) d
  front-set p d i v e h =
      ap (λ (l : List A). set (p ++ l) i v) (drop-cons d i v h)
      ∙ set_at p (get_or d i v) (drop (suc i) d) v i e
      ∙ sym (append_snoc p v (drop (suc i) d))
      ∙ ap (λ (k : ℕ). p ++ (v ∷ []) ++ drop k d) (sym (add-one i))

  -- one more of s over the front of d
  pub copy_next : (s d x : List A) (i : ℕ) (e : A) → i < length s → i < length d → x ≡ take i s ++ drop i d
      → set x i (get_or s i e) ≡ take (i + 1) s ++ drop (i + 1) d
  copy_next s d x i e hs hd q =
      ap (λ (l : List A). set l i (get_or s i e)) q
      ∙ front-set (take i s) d i (get_or s i e) (length-take-le i s (omega arith)) hd
      ∙ ap (λ (l : List A). l ++ drop (i + 1) d) (sym (take-suc s i e hs) ∙ ap (λ (k : ℕ). take k s) (sym (add-one i)))

  pub copy-all : (s d x : List A) (i : ℕ) → i ≡ length s → length d ≡ length s → x ≡ take i s ++ drop i d → x ≡ s
  copy-all s d x i e h q =
      q
      ∙ ap (λ (k : ℕ). take k s ++ drop k d) e
      ∙ ap (λ (l : List A). l ++ drop (length s) d) (take-length s)
      ∙ ap (λ (l : List A). s ++ l) (drop_of_length-le d {i = length s} (omega arith))
      ∙ append-nil s

  -- one v more over the front of d
  pub fill_next : (v : A) (d x : List A) (i k : ℕ) → k ≡ i + 1 → i < length d → x ≡ replicate i v ++ drop i d
      → set x i v ≡ replicate k v ++ drop k d
  fill_next v d x i k e h q =
      ap (λ (l : List A). set l i v) q
      ∙ front-set (replicate i v) d i v (length-replicate i v) h
      ∙ ap (λ (l : List A). l ++ drop (i + 1) d) (replicate-append-replicate i 1 v)
      ∙ ap (λ (m : ℕ). replicate m v ++ drop m d) (sym e)
