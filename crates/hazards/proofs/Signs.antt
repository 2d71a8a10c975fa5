-- Floats that are no NaN and of one sign; waits that are so, and waits that binary64 holds.
use mathlib.Core.Path.{◌≡◌}
use mathlib.Core.Bool.{Bool, false}
use lib.Dec.{T}
use lib.Ieee.{Float, nan, inf, fin, binary64, fits}
use Rattle.std.specs.Prelude.{Option, None, Some}
use Rattle.hazards.specs.declared.rates.Wait.{Wait}

-- no NaN, and of sign s: finite or infinite
abbrev pub Signed : Bool → Float → Type 0
Signed s nan = ⊥
Signed s (inf t) = t ≡ s
Signed s (fin t m e) = t ≡ s

-- a wait that is no NaN and has a clear sign
abbrev pub NotBelow : Option Wait → Type 0
NotBelow (Some wait) = Signed false wait.time
NotBelow None = Unit {0}

-- a wait that binary64 holds
abbrev pub Held : Option Wait → Type 0
Held (Some wait) = T (fits binary64 wait.time)
Held None = Unit {0}
