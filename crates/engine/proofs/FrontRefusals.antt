-- What bytes ask for, by the 2 or 3 that they are refused by where they do not begin with a whole command.
use mathlib.Core.Path.{◌≡◌, refl, subst}
use mathlib.Core.Bool.{true}
use mathlib.Core.List.{List}
use Prim.Native.Nat.{ℕ, ◌<◌, ◌≤◌}
use native.Mathlib.Omega.{arith}
use borrow.Author.Tests.{ltb-true, ltb-false, leb-true, leb-false}
use lib.Dec.{ltb, leb}
use lib.ListN.{length}
use Rattle.hazards.proofs.Cases.{by_test}
use Rattle.engine.specs.Commands.{width_of, front_refusal}
use Rattle.engine.specs.Engine.{Bytes, code, reject, classify}
use Rattle.engine.specs.Instance.{engine_of}
use Rattle.engine.specs.State.{EngineState}
use Rattle.engine.specs.Validation.{valid_state}
use Rattle.engine.proofs.Asking.{asks_nothing, asks_no_command, asks_part}
use Rattle.engine.proofs.RunStops.{end_empty, end_none, end_part, end_whole}

-- bytes that begin with a whole command, UNDO among them
pub record BeginsWhole (i : Bytes) : Type 0 where
  pub some : 0 < length i
  pub wide : 0 < width_of (code i)
  pub long : width_of (code i) ≤ length i

module _ (stream : List ℕ) (n : ℕ) (s : EngineState) (i : Bytes) where
  abbrev ByNumber : ℕ → Type 0
  ByNumber number =
      (number ≡ 0 → BeginsWhole i)
      × (valid_state stream n s ≡ true → (number ≡ 0 → ⊥) → classify (engine_of stream n) s i ≡ reject number)

  by_number : ByNumber (front_refusal i)
  by_number =
      by_test (ltb 0 (length i))
      (λ l.
      let some = ltb-true 0 (length i) l in
      by_test (ltb 0 (width_of (code i)))
      (λ w.
      let wide = ltb-true 0 (width_of (code i)) w in
      by_test (leb (width_of (code i)) (length i))
      (λ f.
      let long = leb-true (width_of (code i)) (length i) f in
      subst ByNumber (end_whole i some wide long)
      ((λ _. record { some = some; wide = wide; long = long }), (λ v other. absurd (other refl))))
      (λ f.
      let short = leb-false (width_of (code i)) (length i) f in
      subst ByNumber (end_part i some wide short)
      ((λ z. absurd (omega arith)), (λ v other. asks_part (engine_of stream n) s i v some wide short))))
      (λ w.
      let none = ltb-false 0 (width_of (code i)) w in
      subst ByNumber (end_none i some none)
      ((λ z. absurd (omega arith)), (λ v other. asks_no_command (engine_of stream n) s i v some none))))
      (λ l.
      let none = ltb-false 0 (length i) l in
      subst ByNumber (end_empty i (omega arith))
      ((λ z. absurd (omega arith)), (λ v other. asks_nothing (engine_of stream n) s i v none)))

  module _ (number : ℕ) (e : number ≡ front_refusal i) where
    pub front_refused : valid_state stream n s ≡ true → (number ≡ 0 → ⊥) → classify (engine_of stream n) s i ≡ reject number
    front_refused v z = rw e (by_number.1 v (rw e at z))

    pub front_whole : number ≡ 0 → BeginsWhole i
    front_whole z = by_number.0 (rw e at z)
