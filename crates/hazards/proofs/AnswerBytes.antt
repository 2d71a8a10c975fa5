-- An answer's fields, written one after another, are its bytes.
use mathlib.Core.Path.{◌≡◌, refl, ◌∙◌}
use mathlib.Core.Bool.{Bool, true, false}
use mathlib.Core.List.{List, ◌∷◌, ◌++◌, append_assoc}
use Prim.Native.Nat.{ℕ, suc, ◌+◌, ◌*◌, ◌<◌, ◌≤◌}
use native.Mathlib.Nat.{add-mul-div_left, add-mul-mod_self_left, mod-eq_of_lt, div-eq_of_lt, zero-add}
use native.Mathlib.Omega.{arith}
use borrow.Author.Tests.{le-leb}
use lib.Dec.{leb, lit<}
use lib.ListN.{length, length-append}
use lib.Ieee.{binary64, to_bits}
use Rattle.hazards.specs.Fields.{bytes_of, with_field, with_f64}
use Rattle.std.specs.Int.{from_bool}
use Rattle.hazards.specs.Answers.{answer_width, flag_byte, head_bytes, piece_bytes, answer_bytes, with_answer}
use Rattle.hazards.specs.declared.answers.Answer.{Answer}
use Rattle.hazards.proofs.Bytes.{bytes_of-length}
use Rattle.hazards.proofs.Overwrite.{over, over-length, over_next, field_over}

-- the lowest byte, then those of the rest
pub bytes-cons : (n b x : ℕ) → b < 256 → bytes_of (suc n) (b + 256 * x) ≡ b ∷ bytes_of n x
unfolding bytes_of
bytes-cons n b x h =
    rw (add-mul-mod_self_left b 256 x, mod-eq_of_lt h, add-mul-div_left b x (lit< tt), div-eq_of_lt h, zero-add)

-- a flag as a byte
pub flag_is : (flag : Bool) → from_bool flag ≡ flag_byte flag
flag_is true = refl
flag_is false = refl

-- a piece and seven zero bytes are the bytes of a piece in eight
piece_bytes_lem : (a : Answer) → a.piece < 256 → bytes_of 8 a.piece ≡ piece_bytes a
unfolding bytes_of
piece_bytes_lem a small = rw (mod-eq_of_lt small, div-eq_of_lt small)

-- the width of an answer
pub answer_bytes-length : (a : Answer) → length (answer_bytes a) ≡ answer_width
unfolding answer_bytes head_bytes
answer_bytes-length a = simp (length-append, bytes_of-length)

-- a field right after a run of bytes
next : (n : ℕ) (s : List ℕ) (at : ℕ) (xs : List ℕ) (k x : ℕ) → length xs ≡ k → at + k + n ≤ length s
    → with_field n (over at xs s) (at + k) x ≡ over at (xs ++ bytes_of n x) s
next n s at xs k x e h =
    let fits : at + length xs ≤ length s = omega arith in
    let room : at + length xs + n ≤ length (over at xs s) = rw (over-length s at xs fits) (omega arith) in
    rw (← e) (field_over n (over at xs s) (at + length xs) x room ∙ over_next s at xs fits (bytes_of n x))

module _ (s : List ℕ) (at : ℕ) (a : Answer) (head : ℕ) (is-head : bytes_of 4 head ≡ head_bytes a) (small : a.piece < 256)
    (fits : at + answer_width ≤ length s) where
  -- the runs of bytes so far
  one : List ℕ
  one = bytes_of 4 head

  two : List ℕ
  two = one ++ bytes_of 4 a.cause

  three : List ℕ
  three = two ++ bytes_of 8 (to_bits binary64 a.delta)

  four : List ℕ
  four = three ++ bytes_of 8 a.ticks_low

  five : List ℕ
  five = four ++ bytes_of 8 a.ticks_high

  two-length : length two ≡ 8
  unfolding two one
  two-length = simp (length-append, bytes_of-length)

  three-length : length three ≡ 16
  unfolding three
  three-length = simp (length-append, bytes_of-length, two-length)

  four-length : length four ≡ 24
  unfolding four
  four-length = simp (length-append, bytes_of-length, three-length)

  six : List ℕ
  six = five ++ bytes_of 8 a.piece

  five-length : length five ≡ 32
  unfolding five
  five-length = simp (length-append, bytes_of-length, four-length)

  six_bytes : six ≡ answer_bytes a
  unfolding six five four three two one answer_bytes
  six_bytes = simp (append_assoc, is-head, piece_bytes_lem a small)

  one_written : with_field 4 s at head ≡ over at one s
  unfolding one
  one_written = field_over 4 s at head (omega arith)

  two_written : with_field 4 (over at one s) (at + 4) a.cause ≡ over at two s
  unfolding two one
  two_written = next 4 s at (bytes_of 4 head) 4 a.cause (bytes_of-length 4 head) (omega arith)

  three_written : with_field 8 (over at two s) (at + 8) (to_bits binary64 a.delta) ≡ over at three s
  unfolding three
  three_written = next 8 s at two 8 (to_bits binary64 a.delta) two-length (omega arith)

  four_written : with_field 8 (over at three s) (at + 16) a.ticks_low ≡ over at four s
  unfolding four
  four_written = next 8 s at three 16 a.ticks_low three-length (omega arith)

  five_written : with_field 8 (over at four s) (at + 24) a.ticks_high ≡ over at five s
  unfolding five
  five_written = next 8 s at four 24 a.ticks_high four-length (omega arith)

  six_written : with_field 8 (over at five s) (at + 32) a.piece ≡ over at six s
  unfolding six
  six_written = next 8 s at five 32 a.piece five-length (omega arith)

  pub answer_written :
      with_field 8
      (with_field 8
      (with_field 8
      (with_f64 (with_field 4 (with_field 4 s at head) (at + 4) a.cause) (at + 8) a.delta) (at + 16) a.ticks_low)
      (at + 24) a.ticks_high) (at + 32) a.piece
      ≡ with_answer s at a
  unfolding with_f64 with_answer
  answer_written =
      rw (one_written, two_written, three_written, four_written, five_written, six_written, six_bytes, answer_bytes-length, le-leb _ _ fits)

-- an answer that does not lie whole in the buffer
pub written_cut : (s : List ℕ) (at : ℕ) (a : Answer) → leb (at + answer_width) (length s) ≡ false → with_answer s at a ≡ s
unfolding with_answer
written_cut s at a h = rw h
