-- What the exit of a `?` on a refusal returns.
use mathlib.Core.Path.{◌≡◌, refl, sym, subst}
use Prim.Native.Nat.{ℕ}
use mathlib.Core.List.{List, [], ◌∷◌}
use lib.ListN.{length}
use Rattle.std.proofs.Common.{Result, Err, Option, Some, None}
use Rattle.std.specs.List.{slice_get}
use Rattle.std.specs.Result.{IsErrAnd}
use Rattle.std.proofs.lemmas.Result.{err_from_is_err_and}
use Rattle.hazards.specs.declared.refusals.Refusal.{Refusal}

-- the result is the refusal
pub refused_as : {T : Type 0} (r : Result T Refusal) {refusal : Refusal} → IsErrAnd r (λ y. y ≡ refusal) → r ≡ Err refusal
refused_as r h = let p = err_from_is_err_and r h in rw (p.1, p.2) refl

-- no first byte
abbrev Absent : Option ℕ → Type 0
Absent (Some _) = ⊥
Absent None = Unit {0}

pub none_first : (bytes : List ℕ) → slice_get bytes 0 ≡ None → length bytes ≡ 0
none_first [] h = refl
none_first (b ∷ bs) h = absurd (subst Absent (sym h) tt)
