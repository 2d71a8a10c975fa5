-- Document 01, opening paragraph: multi-byte fields are little-endian, and an f64 is its 8 bytes. A field that does not lie whole
-- in the buffer reads as 0, and writing it changes nothing.
use Rattle.std.specs.Prelude.{cond, List, [], ◌∷◌, ◌++◌, ℕ, zero, suc, ◌+◌, ◌*◌, ◌/◌, ◌%◌, leb, ℤ, length, take, drop, Float}
use Rattle.std.specs.Float.{binary64}
use Rattle.std.specs.Float.Ieee.{of_bits, to_bits}
use Rattle.std.specs.Int.{w32}
use Rattle.std.proofs.Common.{to_z}

-- the number that bytes stand for, the lowest first
unfoldable pub little_endian : List ℕ → ℕ
little_endian [] = 0
little_endian (b ∷ bs) = b + 256 * little_endian bs

-- the n lowest bytes of a number, the lowest first
unfoldable pub bytes_of : ℕ → ℕ → List ℕ
bytes_of zero x = []
bytes_of (suc n) x = x % 256 ∷ bytes_of n (x / 256)

-- the field of n bytes at a place
unfoldable pub field_at : ℕ → List ℕ → ℕ → ℕ
field_at n bytes at = cond (leb (at + n) (length bytes)) (little_endian (take n (drop at bytes))) 0

-- the buffer with x written as a field of n bytes at a place
unfoldable pub with_field : ℕ → List ℕ → ℕ → ℕ → List ℕ
with_field n bytes at x =
    cond (leb (at + n) (length bytes)) (take at bytes ++ (bytes_of n x ++ drop (at + n) bytes)) bytes

-- an f64 field: every NaN pattern reads as the one NaN, which is written as its quiet pattern with a clear sign
unfoldable pub f64_at : List ℕ → ℕ → Float
f64_at bytes at = of_bits binary64 (field_at 8 bytes at)

unfoldable pub with_f64 : List ℕ → ℕ → Float → List ℕ
with_f64 bytes at x = with_field 8 bytes at (to_bits binary64 x)

-- an i32 field, in two's complement
unfoldable pub i32_at : List ℕ → ℕ → ℤ
i32_at bytes at = to_z w32 (field_at 4 bytes at)
