-- Document 01, "Queue and ticks": a time in whole ticks, halves away from zero, held as two words.
use Rattle.std.specs.Prelude.{cond, ℕ, ◌+◌, ◌-◌, ◌*◌, ◌/◌, ◌%◌, ◌^◌, min, Float}
use Rattle.std.specs.Float.{nan, inf, fin, binary64}
use Rattle.std.specs.Float.Ieee.{add, mul, up, down}
use Rattle.clocks.specs.declared.ticks.Ticks.{Ticks}

-- n / d to the nearest whole number, a half up
abbrev pub nearest_up : ℕ → ℕ → ℕ
nearest_up n d = (2 * n + d) / (2 * d)

-- NaN or negative gives 0, 2^128 or more gives 2^128 - 1. fin s m e is the number m times 2^e, negative where s is set; 2^e is the fraction
-- up e / down e
unfoldable pub whole_ticks : Float → ℕ
whole_ticks nan = 0
whole_ticks (inf s) = cond s 0 (2 ^ 128 - 1)
whole_ticks (fin s m e) = cond s 0 (min (nearest_up (m * up e) (down e)) (2 ^ 128 - 1))

-- held as low and high u64
abbrev pub ticks_of : Float → Ticks
ticks_of x = record { low = whole_ticks x % 2 ^ 64; high = whole_ticks x / 2 ^ 64 }

-- (now + delta) times scale
abbrev pub ticks_at : Float → Float → Float → Ticks
ticks_at now delta scale = ticks_of (mul binary64 (add binary64 now delta) scale)
