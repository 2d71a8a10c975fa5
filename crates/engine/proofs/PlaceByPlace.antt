-- What the library tests of a list, or of two, is a test of every place, and of rows of words a test of every word.
use mathlib.Core.Path.{◌≡◌, refl, sym, ◌∙◌, ap, ap₂}
use mathlib.Core.Bool.{Bool, true, false, ◌&&◌, ◌||◌}
use mathlib.Core.List.{List, [], ◌∷◌}
use Prim.Native.Nat.{ℕ, zero, suc, ◌<◌}
use native.Mathlib.Omega.{arith}
use lib.Dec.{eqb}
use lib.ListN.{length, get_or}
use lib.Pointwise.{pointwise}
use Rattle.std.specs.List.{list_all, list_any, zip}
use Rattle.clocks.specs.Layout.{WordRows, every_below}
use Rattle.clocks.proofs.EveryBelow.{and_true}
use Rattle.engine.specs.ComparisonInternals.{same_word_row, same_word_rows}

and_then : (a b c : Bool) → ((a && b) && c) ≡ (a && (b && c))
and_then true b c = refl
and_then false b c = refl

-- the first place apart
every_first : (n : ℕ) (test : ℕ → Bool) → every_below (suc n) test ≡ (test 0 && every_below n (λ i. test (suc i)))
unfolding every_below
every_first zero test = sym (and_true (test 0))
every_first (suc n) test =
    ap (λ (b : Bool). b && test (suc n)) (every_first n test) ∙ and_then (test 0) (every_below n (λ i. test (suc i))) (test (suc n))

pub every_alike : (n : ℕ) (f g : ℕ → Bool) → ((i : ℕ) → i < n → f i ≡ g i) → every_below n f ≡ every_below n g
unfolding every_below
every_alike zero f g h = refl
every_alike (suc n) f g h = rw (every_alike n f g (λ i l. h i (omega arith)), h n (omega arith))

pub all_tested : {A : Type 0} (test : A → Bool) (d : A) (xs : List A) → list_all test xs ≡ every_below (length xs) (λ i. test (get_or xs i d))
unfolding every_below
all_tested test d [] = refl
all_tested test d (x ∷ xs) =
    ap (λ (b : Bool). test x && b) (all_tested test d xs) ∙ sym (every_first (length xs) (λ i. test (get_or (x ∷ xs) i d)))

place_by_place : {A B : Type 0} (same : A → B → Bool) (d : A) (e : B) (xs : List A) (ys : List B) → length xs ≡ length ys
    → pointwise same xs ys ≡ every_below (length xs) (λ i. same (get_or xs i d) (get_or ys i e))
unfolding every_below
place_by_place same d e [] [] h = refl
place_by_place same d e [] (y ∷ ys) h = absurd (omega arith)
place_by_place same d e (x ∷ xs) [] h = absurd (omega arith)
place_by_place same d e (x ∷ xs) (y ∷ ys) h =
    ap (λ (b : Bool). same x y && b) (place_by_place same d e xs ys (omega arith))
    ∙ sym (every_first (length xs) (λ i. same (get_or (x ∷ xs) i d) (get_or (y ∷ ys) i e)))

module _ {A B : Type 0} (same : A → B → Bool) where
  pub pairs_compared : (xs : List A) (ys : List B) → length xs ≡ length ys → list_all (λ (p : A × B). same p.0 p.1) (zip xs ys) ≡ pointwise same xs ys
  pairs_compared [] [] h = refl
  pairs_compared [] (y ∷ ys) h = absurd (omega arith)
  pairs_compared (x ∷ xs) [] h = absurd (omega arith)
  pairs_compared (x ∷ xs) (y ∷ ys) h = ap (λ (b : Bool). same x y && b) (pairs_compared xs ys (omega arith))

  pub pairs_tested : (d : A) (e : B) (xs : List A) (ys : List B) → length xs ≡ length ys
      → list_all (λ (p : A × B). same p.0 p.1) (zip xs ys) ≡ every_below (length xs) (λ i. same (get_or xs i d) (get_or ys i e))
  pairs_tested d e xs ys h = pairs_compared xs ys h ∙ place_by_place same d e xs ys h

pub any_alike : {A B : Type 0} (f : A → Bool) (g : B → Bool) (d : A) (e : B) (xs : List A) (ys : List B) → length xs ≡ length ys
    → ((i : ℕ) → i < length xs → f (get_or xs i d) ≡ g (get_or ys i e)) → list_any f xs ≡ list_any g ys
any_alike f g d e [] [] n h = refl
any_alike f g d e [] (y ∷ ys) n h = absurd (omega arith)
any_alike f g d e (x ∷ xs) [] n h = absurd (omega arith)
any_alike f g d e (x ∷ xs) (y ∷ ys) n h =
    ap₂ (λ (a b : Bool). a || b) (h 0 (omega arith)) (any_alike f g d e xs ys (omega arith) (λ i l. h (suc i) (omega arith)))

module _ (a b : WordRows) (long : length a ≡ length b) (eights : (i : ℕ) → i < length a → length (get_or a i []) ≡ 8)
    (eights' : (i : ℕ) → i < length b → length (get_or b i []) ≡ 8) where
  row_by_row : (i : ℕ) → i < length a → pointwise eqb (get_or a i []) (get_or b i []) ≡ same_word_row (get_or a i []) (get_or b i [])
  unfolding same_word_row
  row_by_row i l =
      place_by_place eqb 0 0 (get_or a i []) (get_or b i []) (eights i l ∙ sym (eights' i (omega arith)))
      ∙ ap (λ (n : ℕ). every_below n (λ j. eqb (get_or (get_or a i []) j 0) (get_or (get_or b i []) j 0))) (eights i l)

  pub words_compared : pointwise (pointwise eqb) a b ≡ same_word_rows a b
  unfolding same_word_rows
  words_compared = place_by_place (pointwise eqb) [] [] a b long ∙ every_alike (length a) _ _ row_by_row
