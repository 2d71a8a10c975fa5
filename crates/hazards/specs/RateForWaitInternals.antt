-- What the search for the rate asks of each bit pattern, where it looks, and what it answers.
use Rattle.std.specs.Prelude.{Bool, cond, ℕ, Float}
use Rattle.std.specs.Float.{binary64}
use Rattle.std.specs.Float.Ieee.{of_bits, div, le, eq}
use Rattle.hazards.specs.Floats.{z}
use Rattle.hazards.specs.Refusals.{no_rate}
use Rattle.hazards.specs.RateForWait.{RateForWait, answered}
use Rattle.hazards.specs.declared.rate_for_wait.Bracket.{Bracket}

-- the bit pattern behind that of 2^40
abbrev pub past_limit : ℕ
past_limit = 0x4270_0000_0000_0001

-- w / rate is at most the wait, at the rate with bit pattern b
unfoldable pub used_up_within : Float → Float → ℕ → Bool
used_up_within w wait b = le (div binary64 w (of_bits binary64 b)) wait

-- the bit patterns from `low` to `high`
abbrev pub bracket_of : ℕ → ℕ → Bracket
bracket_of low high = record { low = low; high = high }

-- the rate with bit pattern b where w / rate is the wait, else 24
unfoldable pub exact_rate : Float → Float → ℕ → RateForWait
exact_rate w wait b = cond (eq (div binary64 w (of_bits binary64 b)) wait) (answered 0 (of_bits binary64 b)) (answered no_rate z)
