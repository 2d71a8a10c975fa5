-- What is written over the front of a part of the journal, and the part that the applied commands fill, by the tests on their lengths.
use mathlib.Core.Path.{◌≡◌}
use mathlib.Core.List.{List, [], ◌++◌}
use Prim.Native.Nat.{ℕ, ◌<◌, ◌≤◌, min}
use native.Mathlib.Omega.{arith}
use borrow.Author.Tests.{le-leb, lt-leb}
use lib.ListN.{length, take, drop, replicate}
use Rattle.hazards.specs.Refusals.{invalid_state}
use Rattle.engine.specs.Journal.{copied_into, cleared_front, part, applied_part}

module _ (free command : List ℕ) where
  pub copied_whole : length command ≤ length free → copied_into free command ≡ command ++ drop (length command) free
  unfolding copied_into
  copied_whole h = rw (le-leb (length command) (length free) h)

  pub copied_nothing : length free < length command → copied_into free command ≡ free
  unfolding copied_into
  copied_nothing h = rw (lt-leb (length command) (length free) h)

module _ (bytes : List ℕ) (count : ℕ) where
  pub cleared-front : {end : ℕ} → end ≡ min count (length bytes) → cleared_front bytes count ≡ replicate end 0 ++ drop end bytes
  unfolding cleared_front
  cleared-front e = rw e

  pub cleared_whole : count ≤ length bytes → cleared_front bytes count ≡ replicate count 0 ++ drop count bytes
  cleared_whole h = let e : count ≡ min count (length bytes) = omega arith in cleared-front e

module _ (journal : List ℕ) (n : ℕ) where
  pub applied_front : n ≤ length journal → applied_part journal n ≡ part (take n journal) 0
  unfolding applied_part
  applied_front h = rw (le-leb n (length journal) h)

  pub applied_past : length journal < n → applied_part journal n ≡ part [] invalid_state
  unfolding applied_part
  applied_past h = rw (lt-leb n (length journal) h)
