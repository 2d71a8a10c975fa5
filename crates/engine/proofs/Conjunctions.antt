-- Two tests joined by `&&`.
use mathlib.Core.Path.{◌≡◌, refl}
use mathlib.Core.Bool.{Bool, true, false, ◌&&◌}

pub and_false : (b : Bool) → (b && false) ≡ false
and_false true = refl
and_false false = refl
