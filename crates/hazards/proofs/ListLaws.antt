-- Laws of lists: a test of every element, the part from index i up to n, and folds.
use mathlib.Core.Path.{◌≡◌, refl, sym, ◌∙◌, ap}
use mathlib.Core.Bool.{Bool, true, false, ◌&&◌}
use mathlib.Core.List.{List, [], ◌∷◌, ◌++◌, map}
use Prim.Native.Nat.{ℕ, zero, suc, ◌+◌, ◌<◌, ◌≤◌, min}
use native.Mathlib.Numerals.{add-one}
use native.Mathlib.Omega.{arith}
use borrow.Author.Count.{below_more}
use lib.ListN.{length, get_or, take, set, length-take, drop_of_length-le}
use lib.Seq.{slice, slice-cons, take-suc, take-nil, get_or-set_same, get_or-set_other}
use Rattle.hazards.specs.Lists.{all, foldl}

-- ---- a test of every element: it passes at the first, it fails at the first, there is none

module _ {A : Type 0} (p : A → Bool) {l xs : List A} {x : A} where
  pub all-next : l ≡ x ∷ xs → p x ≡ true → all p l ≡ all p xs
  unfolding all
  all-next first h = rw (first, h)

  pub all-fails : l ≡ x ∷ xs → p x ≡ false → all p l ≡ false
  unfolding all
  all-fails first h = rw (first, h)

  -- with the answer for the elements before
  pub all-so-far : (before : Bool) {r : Bool} → l ≡ x ∷ xs → r ≡ p x → ((before && r) && all p xs) ≡ (before && all p l)
  unfolding all
  all-so-far true first e = rw (e, first)
  all-so-far false first e = refl

pub all_none : {A : Type 0} (p : A → Bool) {l : List A} → l ≡ [] → all p l ≡ true
unfolding all
all_none p none = rw none

pub all_done : {A : Type 0} (p : A → Bool) (before : Bool) {l : List A} → l ≡ [] → (before && all p l) ≡ before
unfolding all
all_done p true none = rw none
all_done p false none = refl

-- ---- the part from i up to n, and the first i + 1 elements

less_one : {n m : ℕ} → suc n ≡ suc m → n ≡ m
less_one h = omega arith

module _ {A : Type 0} where
  pub slice_next : (l : List A) (n i : ℕ) (d : A) → i < n → n ≤ length l → slice i n l ≡ get_or l i d ∷ slice (i + 1) n l
  slice_next l n i d h k = rw add-one (slice-cons i n l d h k)

  pub slice_none : (l : List A) (n i : ℕ) → n ≤ i → slice i n l ≡ []
  slice_none l n i h = let e : length (take n l) ≤ i = omega (arith, length-take n l) in drop_of_length-le (take n l) e

  pub take_next : (l : List A) (i : ℕ) (d : A) → i < length l → take (i + 1) l ≡ take i l ++ (get_or l i d ∷ [])
  take_next l i d h = rw add-one (take-suc l i d h)

  -- a count above the length counts as the length
  pub take-most : (l : List A) (m n : ℕ) → length l ≡ m → take (min n m) l ≡ take n l
  take-most [] m n h = take-nil (min n m) ∙ sym (take-nil n)
  take-most (x ∷ xs) m zero h = let e : min 0 m ≡ 0 = omega arith in rw e
  take-most (x ∷ xs) zero (suc n) h = absurd (let e : ◌≡◌ {A = ℕ} (suc (length xs)) 0 = h in omega arith)
  take-most (x ∷ xs) (suc m) (suc n) h =
      let e : min (suc n) (suc m) ≡ suc (min n m) = omega arith in
      rw e (ap (λ (r : List A). x ∷ r) (take-most xs m n (less_one h)))

-- an element of a mapped list, whatever stands past its end
pub get_d-map-in : {A : Type 0} (f : A → ℕ) (l : List A) (i : ℕ) (d : A) → i < length l → get_or (map f l) i 0 ≡ f (get_or l i d)
get_d-map-in f [] i d h = absurd (let e : i < 0 = h in omega arith)
get_d-map-in f (x ∷ xs) zero d h = refl
get_d-map-in f (x ∷ xs) (suc i) d h = get_d-map-in f xs i d (omega arith)

-- one more element of a list that a loop fills
pub set_next : {A : Type 0} (f : ℕ → A) (l : List A) (i : ℕ) (d : A) → i < length l → ((k : ℕ) → k < i → get_or l k d ≡ f k)
    → (k : ℕ) → k < i + 1 → get_or (set l i (f i)) k d ≡ f k
set_next f l i d h below =
    below_more (λ (k : ℕ). get_or (set l i (f i)) k d ≡ f k) i (λ k m. get_or-set_other l i k (f i) d (λ q. omega arith) ∙ below k m)
    (get_or-set_same l i (f i) d h)

pub set-next-to : {A : Type 0} (f : ℕ → A) (l : List A) (i : ℕ) (d : A) {x : A} → x ≡ f i → i < length l
    → ((k : ℕ) → k < i → get_or l k d ≡ f k) → (k : ℕ) → k < i + 1 → get_or (set l i x) k d ≡ f k
set-next-to f l i d e h below k m = rw e (set_next f l i d h below k m)

-- ---- folds

pub foldl-append : {A B : Type 0} (f : B → A → B) (b : B) (xs ys : List A) → foldl f b (xs ++ ys) ≡ foldl f (foldl f b xs) ys
unfolding foldl
foldl-append f b [] ys = refl
foldl-append f b (x ∷ xs) ys = foldl-append f (f b x) xs ys
