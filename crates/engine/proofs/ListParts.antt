-- A part of a list put in the place of another of its length: what is read there, and what is before and after it.
use mathlib.Core.Path.{◌≡◌, sym, ◌∙◌, ap}
use mathlib.Core.List.{List, ◌++◌}
use Prim.Native.Nat.{ℕ, ◌+◌, ◌-◌, ◌≤◌}
use native.Mathlib.Omega.{arith}
use lib.ListN.{length, take, drop, take-append-drop, length-append, length-drop}
use lib.Seq.{length-take-le, take_at, drop_at, take-append-le, drop-append-le, drop-append-add, drop-drop}

-- what lies within the first a is not changed by cutting there
pub within_first : {A : Type 0} (l : List A) (a b c : ℕ) → b + c ≤ a → a ≤ length l → take c (drop b (take a l)) ≡ take c (drop b l)
within_first l a b c h k =
    let n = length-take-le a l k in
    let m = length-drop b (take a l) in
    sym
    (ap (λ xs. take c (drop b xs)) (sym (take-append-drop a l))
    ∙ (ap (take c) (drop-append-le b (take a l) (drop a l) (omega arith))
    ∙ take-append-le c (drop b (take a l)) (drop a l) (omega arith)))

-- z in the place of the m from a on
abbrev pub put : {A : Type 0} → List A → List A → ℕ → ℕ → List A
put l z a m = take a l ++ (z ++ drop m (drop a l))

module _ {A : Type 0} (l z : List A) (a m : ℕ) (many : length z ≡ m) (fits : a + m ≤ length l) where
  before-length : length (take a l) ≡ a
  before-length = length-take-le a l (omega arith)

  pub put-length : length (put l z a m) ≡ length l
  put-length =
      length-append (take a l) (z ++ drop m (drop a l))
      ∙ omega (arith, before-length, many, length-append z (drop m (drop a l)), length-drop m (drop a l), length-drop a l)

  from_here : drop a (put l z a m) ≡ z ++ drop m (drop a l)
  from_here = drop_at (take a l) (z ++ drop m (drop a l)) a before-length

  pub part_here : take m (drop a (put l z a m)) ≡ z
  part_here = ap (take m) from_here ∙ take_at z (drop m (drop a l)) m many

  pub part_before : (b c : ℕ) → b + c ≤ a → take c (drop b (put l z a m)) ≡ take c (drop b l)
  part_before b c h =
      let n = length-drop b (take a l) in
      ap (take c) (drop-append-le b (take a l) (z ++ drop m (drop a l)) (omega (arith, before-length)))
      ∙ (take-append-le c (drop b (take a l)) (z ++ drop m (drop a l)) (omega (arith, before-length))
      ∙ within_first l a b c h (omega arith))

  pub rest_after : (b : ℕ) → a + m ≤ b → drop b (put l z a m) ≡ drop b l
  rest_after b h =
      let d = b - (a + m) in
      let e : b ≡ a + (length z + d) = omega (arith, many) in
      let g : a + (length z + d) ≡ (a + m) + d = omega (arith, many) in
      ap (λ k. drop k (put l z a m)) e
      ∙ (sym (drop-drop (length z + d) a (put l z a m))
      ∙ (ap (drop (length z + d)) from_here
      ∙ (drop-append-add z (drop m (drop a l)) d
      ∙ (ap (drop d) (drop-drop m a l) ∙ (drop-drop d (a + m) l ∙ ap (λ k. drop k l) (sym (e ∙ g)))))))

  pub part_after : (b c : ℕ) → a + m ≤ b → take c (drop b (put l z a m)) ≡ take c (drop b l)
  part_after b c h = ap (take c) (rest_after b h)
