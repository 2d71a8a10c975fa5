-- Bytes written over a buffer at a place: two runs of bytes, the second where the first ends, are one.
use mathlib.Core.Path.{◌≡◌, sym, ◌∙◌}
use mathlib.Core.List.{List, ◌++◌, append_assoc}
use Prim.Native.Nat.{ℕ, ◌+◌, ◌≤◌}
use native.Mathlib.Nat.{add_assoc}
use native.Mathlib.Omega.{arith}
use borrow.Author.Tests.{le-leb}
use lib.ListN.{length, take, drop, length-append, length-take, length-drop}
use lib.Seq.{take_at, drop_at, drop-drop}
use Rattle.hazards.specs.Fields.{bytes_of, with_field}
use Rattle.hazards.proofs.Bytes.{bytes_of-length, writes_whole}

-- xs over the bytes from a place on
abbrev pub over : ℕ → List ℕ → List ℕ → List ℕ
over at xs s = take at s ++ (xs ++ drop (at + length xs) s)

module _ (s : List ℕ) (at : ℕ) (xs : List ℕ) (fits : at + length xs ≤ length s) where
  head-length : length (take at s ++ xs) ≡ at + length xs
  head-length = simp (length-append, length-take) (omega arith)

  over_split : over at xs s ≡ (take at s ++ xs) ++ drop (at + length xs) s
  over_split = sym (append_assoc (take at s) xs (drop (at + length xs) s))

  pub over-length : length (over at xs s) ≡ length s
  over-length = simp (length-append, length-take, length-drop) (omega arith)

  over-take : take (at + length xs) (over at xs s) ≡ take at s ++ xs
  over-take = rw over_split (take_at (take at s ++ xs) (drop (at + length xs) s) (at + length xs) head-length)

  over-drop : (n : ℕ) → drop (at + length xs + n) (over at xs s) ≡ drop (at + length xs + n) s
  over-drop n =
      sym (drop-drop n (at + length xs) (over at xs s))
      ∙ rw (over_split, drop_at (take at s ++ xs) (drop (at + length xs) s) (at + length xs) head-length)
      (drop-drop n (at + length xs) s)

  -- the next run begins where the first ends
  pub over_next : (ys : List ℕ) → over (at + length xs) ys (over at xs s) ≡ over at (xs ++ ys) s
  over_next ys = rw (over-take, over-drop, length-append, add_assoc, append_assoc, append_assoc)

-- a field is such a run
pub field_over : (n : ℕ) (s : List ℕ) (at x : ℕ) → at + n ≤ length s → with_field n s at x ≡ over at (bytes_of n x) s
field_over n s at x h = rw (writes_whole n s at x (le-leb _ _ h), bytes_of-length)
