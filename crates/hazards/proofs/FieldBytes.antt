-- The library's bytes of a number, and its number of bytes, the lowest first, are those of the definitions in Fields.
-- Assumes nothing.
use mathlib.Core.Bool.{cond}
use mathlib.Core.Path.{◌≡◌, refl, sym, ◌∙◌, ap}
use mathlib.Core.List.{List, [], ◌∷◌, ◌++◌}
use Prim.Native.Nat.{ℕ, zero, suc, ◌+◌, ◌*◌, ◌/◌, ◌%◌, ◌^◌, ◌<◌, ◌≤◌}
use native.Mathlib.Nat.{add-zero, pow-suc, div-one, div-div-eq-div-mul}
use native.Mathlib.Omega.{arith}
use lib.Dec.{leb}
use lib.ListN.{length, get_or, get_or-eq_default, take, drop, length-take, length-drop}
use lib.Seq.{take-take, get_or-drop}
use borrow.Author.Tests.{le-leb, lt-leb, leb-true, leb-false}
use Rattle.std.specs.Prelude.{slice_index}
use Rattle.std.specs.Int.{byte_at, byte_worth, bytes_low_first, sum_through}
use Rattle.hazards.specs.Fields.{little_endian, bytes_of, field_at, with_field}
use Rattle.hazards.proofs.Cases.{by_test}
use Rattle.hazards.proofs.Bytes.{reads_whole, reads_cut}

-- ---- reading: the number of the first k bytes and one more
upto_next : (n : ℕ) (s : List ℕ) → n < length s → little_endian (take (suc n) s) ≡ little_endian (take n s) + get_or s n 0 * 256 ^ n
unfolding little_endian
upto_next n [] h = absurd (let e : n < 0 = h in omega arith)
upto_next zero (b ∷ s) h = omega arith
upto_next (suc n) (b ∷ s) h =
    let rest = upto_next n s (omega arith) in
    rw (rest, pow-suc 256 n) (grind arith)

sum_upto : (k : ℕ) (s : List ℕ) → k < length s → sum_through (λ i. byte_worth i (slice_index s i)) k ≡ little_endian (take (suc k) s)
unfolding little_endian
sum_upto zero s h = omega (arith, upto_next zero s h)
sum_upto (suc k) s h = omega (arith, sum_upto k s (omega arith), upto_next (suc k) s h)

module _ (k : ℕ) (s : List ℕ) (at : ℕ) where
  pub reads_field : {word : List ℕ} → at + suc k ≤ length s → word ≡ take (suc k) (drop at s)
      → sum_through (λ i. byte_worth i (slice_index word i)) k ≡ field_at (suc k) s at
  reads_field {word} h e =
      rw e
      (sum_upto k (take (suc k) (drop at s)) (omega (arith, length-take (suc k) (drop at s), length-drop at s))
      ∙ ap little_endian (take-take (suc k) (suc k) (drop at s) (omega arith))
      ∙ sym (reads_whole (suc k) s at (le-leb (at + suc k) (length s) h)))

  pub reads_none : length s < at + suc k → 0 ≡ field_at (suc k) s at
  reads_none h = sym (reads_cut (suc k) s at (lt-leb (at + suc k) (length s) h))

pub reads_byte : (s : List ℕ) (at : ℕ) → get_or s at 0 ≡ field_at 1 s at
unfolding little_endian
reads_byte s at =
    by_test (leb (at + 1) (length s))
    (λ e.
    let h = leb-true (at + 1) (length s) e in
    let first = upto_next 0 (drop at s) (omega (arith, length-drop at s)) in
    let same : get_or s (at + 0) 0 ≡ get_or s at 0 = rw add-zero refl in
    omega (arith, reads_whole 1 s at e, first, get_or-drop at s 0 0, same))
    (λ e. get_or-eq_default s 0 (omega (arith, leb-false (at + 1) (length s) e)) ∙ sym (reads_cut 1 s at e))

-- ---- writing: the bytes from the i-th on
byte_is : (i n : ℕ) → byte_at i n ≡ n / 256 ^ i % 256
byte_is zero n = ap (λ (x : ℕ). x % 256) (sym (div-one n))
byte_is (suc i) n = refl

bytes_from : (k i n : ℕ) → bytes_low_first i k n ≡ bytes_of k (n / 256 ^ i)
unfolding bytes_of
bytes_from zero i n = refl
bytes_from (suc k) i n =
    let next : n / 256 ^ suc i ≡ n / 256 ^ i / 256 = ap (λ (x : ℕ). n / x) (pow-suc 256 i) ∙ sym (div-div-eq-div-mul n (256 ^ i) 256) in
    rw (byte_is i n, bytes_from k (suc i) n, next)

bytes_are : (k n : ℕ) → bytes_low_first 0 k n ≡ bytes_of k n
bytes_are k n = bytes_from k 0 n ∙ ap (bytes_of k) (div-one n)

pub writes_field : (k : ℕ) (s : List ℕ) (at x : ℕ) {field r : List ℕ} → field ≡ bytes_low_first 0 k x
    → r ≡ cond (leb (at + k) (length s)) (take at s ++ (field ++ drop (at + k) s)) s → r ≡ with_field k s at x
unfolding with_field
writes_field k s at x e h = h ∙ rw (e, bytes_are k x)
