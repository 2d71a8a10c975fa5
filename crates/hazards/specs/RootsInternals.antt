-- What the search for a root finds: a value's 53 digits, and the whole number nearest to the root of n * 2^52.
use Rattle.std.specs.Prelude.{◌≡◌, ℕ, ◌+◌, ◌*◌, ◌^◌, ◌≤◌, ◌<◌}

-- the pattern of the infinity, one past that of the largest finite value
abbrev pub infinity_pattern : ℕ
infinity_pattern = 0x7ff0_0000_0000_0000

-- d has 53 digits, and d * 2^m is N; for every finite value above 0, N being that value times 2^2148, m is in these bounds
abbrev pub AllDigits : (N d m : ℕ) → Type 0
AllDigits N d m = (d * 2 ^ m ≡ N) × (2 ^ 52 ≤ d) × (d < 2 ^ 53) × (1022 ≤ m) × (m < 3120)

-- n * 2^52 is above the square of p - 1/2 and below that of p + 1/2
pub record NearestWhole (n p : ℕ) : Type 0 where
  pub above : p * p < n * 2 ^ 52 + p
  pub below : n * 2 ^ 52 ≤ p * p + p
