-- The first place at which a test holds.
use Rattle.std.specs.Prelude.{◌≡◌, Bool, true, false, cond, ℕ, zero, suc, ◌+◌, ◌-◌, ◌^◌, ◌≤◌, ◌<◌}

-- of the places from `from` on and before `end` the first at which the test holds, and `end` where it holds at none of them
pub record FirstPlace (test : ℕ → Bool) (from end first : ℕ) : Type 0 where
  pub begins : from ≤ first
  pub ends : first ≤ end
  pub before : (i : ℕ) → from ≤ i → i < first → test i ≡ false
  pub holds : first < end → test first ≡ true

-- that place is from `low` to `high`: the test holds at no place before `low`; it holds at `high`, unless that is `end`
pub record Between (test : ℕ → Bool) (from end low high : ℕ) : Type 0 where
  pub begins : from ≤ low
  pub ordered : low ≤ high
  pub ends : high ≤ end
  pub before : (i : ℕ) → from ≤ i → i < low → test i ≡ false
  pub holds : high < end → test high ≡ true

-- that place among the 2^k places from `from` on, by halves: of a test that holds at the last of them and goes on holding once it holds
unfoldable pub first_of : (ℕ → Bool) → ℕ → ℕ → ℕ
first_of test zero from = from
first_of test (suc k) from = first_of test k (cond (test (from + 2 ^ k - 1)) from (from + 2 ^ k))
