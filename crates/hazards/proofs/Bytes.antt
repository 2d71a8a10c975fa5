-- Laws of fields in byte buffers, once for every width: what was written reads back, and fields elsewhere are left alone.
-- Assumes nothing.
use mathlib.Core.Path.{◌≡◌, refl, sym, ◌∙◌, ap, subst}
use mathlib.Core.Bool.{true, false}
use mathlib.Core.List.{List, [], ◌∷◌, ◌++◌, append_assoc}
use Prim.Native.Nat.{ℕ, zero, suc, ◌+◌, ◌-◌, ◌/◌, ◌^◌, ◌<◌, ◌≤◌}
use native.Mathlib.Nat.{pow-suc, div-lt_iff_lt-mul, one-le-pow, zero-add, suc-add}
use native.Mathlib.Omega.{arith}
use lib.Dec.{T, leb, lit<}
use lib.Ieee.{Float, binary64, of_bits, to_bits, fits}
use lib.Ieee.Bits.{of_bits-to_bits, to_bits-lt}
use lib.ListN.{length, get_or, take, drop, length-append, length-drop}
use lib.Seq.{take_at, take-take, take-nil, take-append-le}
use lib.Seq.{drop_at, drop-drop, length-take-le, get_or-drop}
use borrow.Author.Tests.{le-leb, leb-true}
use Rattle.hazards.proofs.Cases.{by_test}
use Rattle.hazards.specs.Fields.{little_endian, bytes_of, field_at, with_field, f64_at, with_f64}

-- ---- the bytes of a number
pub bytes_of-length : (n x : ℕ) → length (bytes_of n x) ≡ n
unfolding bytes_of
bytes_of-length zero x = refl
bytes_of-length (suc n) x = ap suc (bytes_of-length n (x / 256))

pub little_endian-bytes_of : (n x : ℕ) → x < 256 ^ n → little_endian (bytes_of n x) ≡ x
unfolding little_endian bytes_of
little_endian-bytes_of zero x h = omega arith
little_endian-bytes_of (suc n) x h =
    let small : x / 256 < 256 ^ n = (div-lt_iff_lt-mul (lit< tt)).1 (subst (λ (y : ℕ). x < y) (pow-suc 256 n) h) in
    rw (little_endian-bytes_of n (x / 256) small) (omega arith)

-- bytes stand for less than 256 to the power of their count
pub little_endian-below : (s : List ℕ) → ((i : ℕ) → get_or s i 0 < 256) → little_endian s < 256 ^ length s
unfolding little_endian
little_endian-below [] h = lit< tt
little_endian-below (b ∷ s) h =
    let rest = little_endian-below s (λ i. h (suc i)) in
    rw (pow-suc 256 (length s)) (omega (arith, h 0))

-- ---- a field that lies whole, and one that is cut
module _ (n : ℕ) (s : List ℕ) (at : ℕ) where
  pub reads_whole : leb (at + n) (length s) ≡ true → field_at n s at ≡ little_endian (take n (drop at s))
  unfolding field_at
  reads_whole e = rw e

  pub reads_cut : leb (at + n) (length s) ≡ false → field_at n s at ≡ 0
  unfolding field_at
  reads_cut e = rw e

  pub writes_whole : (x : ℕ) → leb (at + n) (length s) ≡ true → with_field n s at x ≡ take at s ++ (bytes_of n x ++ drop (at + n) s)
  unfolding with_field
  writes_whole x e = rw e

  pub writes_cut : (x : ℕ) → leb (at + n) (length s) ≡ false → with_field n s at x ≡ s
  unfolding with_field
  writes_cut x e = rw e

-- ---- a written buffer: its length, and what stands before and after the field
module _ (n : ℕ) (s : List ℕ) (at x : ℕ) (h : at + n ≤ length s) where
  whole : leb (at + n) (length s) ≡ true
  whole = le-leb (at + n) (length s) h

  length_whole : length (with_field n s at x) ≡ length s
  length_whole =
      rw (writes_whole n s at x whole) (simp (length-append, length-take-le at s (omega arith), bytes_of-length, length-drop) (omega arith))

  take_whole : (k : ℕ) → k ≤ at → take k (with_field n s at x) ≡ take k s
  take_whole k l =
      rw (writes_whole n s at x whole, take-append-le k (take at s) _ (rw (length-take-le at s (omega arith)) l)) (take-take k at s l)

  drop-whole : drop (at + n) (with_field n s at x) ≡ drop (at + n) s
  drop-whole =
      rw (writes_whole n s at x whole, ← append_assoc)
      (drop_at (take at s ++ bytes_of n x) (drop (at + n) s) (at + n)
      (simp (length-append, length-take-le at s (omega arith), bytes_of-length)))

  field_whole : take n (drop at (with_field n s at x)) ≡ bytes_of n x
  field_whole =
      rw (writes_whole n s at x whole, drop_at (take at s) (bytes_of n x ++ drop (at + n) s) at (length-take-le at s (omega arith)))
      (take_at (bytes_of n x) (drop (at + n) s) n (bytes_of-length n x))

module _ (n : ℕ) (s : List ℕ) (at x : ℕ) where
  whole_or_cut : {X : Type 0} → (at + n ≤ length s → X) → (with_field n s at x ≡ s → X) → X
  whole_or_cut f g =
      by_test (leb (at + n) (length s)) (λ e. f (leb-true (at + n) (length s) e)) (λ e. g (writes_cut n s at x e))

  pub with_field-length : length (with_field n s at x) ≡ length s
  with_field-length = whole_or_cut (length_whole n s at x) (λ e. ap length e)

  pub with_field-take : (k : ℕ) → k ≤ at → take k (with_field n s at x) ≡ take k s
  with_field-take k l = whole_or_cut (λ h. take_whole n s at x h k l) (λ e. ap (take k) e)

  drop-field : drop (at + n) (with_field n s at x) ≡ drop (at + n) s
  drop-field = whole_or_cut (drop-whole n s at x) (λ e. ap (drop (at + n)) e)

  pub with_field-drop : (k : ℕ) → at + n ≤ k → drop k (with_field n s at x) ≡ drop k s
  with_field-drop k l =
      let e : k ≡ (at + n) + (k - (at + n)) = omega arith in
      rw e
      (sym (drop-drop (k - (at + n)) (at + n) (with_field n s at x))
      ∙ ap (drop (k - (at + n))) drop-field
      ∙ drop-drop (k - (at + n)) (at + n) s)

-- ---- what was written reads back
pub field_at-with_field : (n : ℕ) (s : List ℕ) (at x : ℕ) → at + n ≤ length s → x < 256 ^ n → field_at n (with_field n s at x) at ≡ x
field_at-with_field n s at x h k =
    reads_whole n (with_field n s at x) at (rw (with_field-length n s at x) (le-leb (at + n) (length s) h))
    ∙ ap little_endian (field_whole n s at x h)
    ∙ little_endian-bytes_of n x k

pub f64_at-with_f64 : (s : List ℕ) (at : ℕ) (x : Float) → T (fits binary64 x) → at + 8 ≤ length s → f64_at (with_f64 s at x) at ≡ x
unfolding f64_at with_f64
f64_at-with_f64 s at x f h =
    ap (of_bits binary64) (field_at-with_field 8 s at (to_bits binary64 x) h (to_bits-lt binary64 x f)) ∙ of_bits-to_bits binary64 x f

pub drop-take : {A : Type 0} (j m : ℕ) (l : List A) → drop j (take (j + m) l) ≡ take m (drop j l)
drop-take zero m l = rw (zero-add m)
drop-take (suc j) m [] = rw (suc-add j m) (sym (take-nil m))
drop-take (suc j) m (b ∷ l) = rw (suc-add j m) (drop-take j m l)

-- ---- a field elsewhere is left alone, of width m at a place `to`
module _ (n : ℕ) (s : List ℕ) (at x m to : ℕ) where
  same_bytes : take m (drop to (with_field n s at x)) ≡ take m (drop to s) → field_at m (with_field n s at x) to ≡ field_at m s to
  unfolding field_at
  same_bytes e = rw (e, with_field-length n s at x)

  pub field_at-after : at + n ≤ to → field_at m (with_field n s at x) to ≡ field_at m s to
  field_at-after h = same_bytes (ap (take m) (with_field-drop n s at x to h))

  pub field_at-before : to + m ≤ at → field_at m (with_field n s at x) to ≡ field_at m s to
  field_at-before h =
      same_bytes (sym (drop-take to m (with_field n s at x)) ∙ ap (drop to) (with_field-take n s at x (to + m) h) ∙ drop-take to m s)

-- ---- bytes
take-bytes : (n : ℕ) (s : List ℕ) → ((i : ℕ) → get_or s i 0 < 256) → (i : ℕ) → get_or (take n s) i 0 < 256
take-bytes zero s h i = lit< tt
take-bytes (suc n) [] h i = lit< tt
take-bytes (suc n) (b ∷ s) h zero = h 0
take-bytes (suc n) (b ∷ s) h (suc i) = take-bytes n s (λ j. h (suc j)) i

pub field_at-below : (n : ℕ) (s : List ℕ) (at : ℕ) → ((i : ℕ) → get_or s i 0 < 256) → field_at n s at < 256 ^ n
field_at-below n s at h =
    by_test (leb (at + n) (length s))
    (λ e.
    let l : length (take n (drop at s)) ≡ n =
    length-take-le n (drop at s) (rw (length-drop at s) (omega (arith, leb-true (at + n) (length s) e))) in
    let b = little_endian-below (take n (drop at s)) (take-bytes n (drop at s) (λ i. rw (get_or-drop at s i 0) (h (at + i)))) in
    rw (reads_whole n s at e) (rw l at b))
    (λ e. rw (reads_cut n s at e) (one-le-pow n 256 (lit< tt)))
