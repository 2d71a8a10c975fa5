-- A test of every place below n: one place more, one that fails, and the test at each place.
use mathlib.Core.Path.{◌≡◌, refl}
use mathlib.Core.Bool.{Bool, true, false, ◌&&◌}
use Prim.Native.Nat.{ℕ, zero, suc, ◌+◌, ◌<◌}
use native.Mathlib.Numerals.{add-one}
use native.Mathlib.Omega.{arith}
use borrow.Author.Tests.{eqb-true, eqb-false}
use lib.Dec.{eqb}
use Rattle.hazards.proofs.Cases.{by_test, both_true}
use Rattle.clocks.specs.Layout.{every_below}

pub and_false : (b : Bool) → (b && false) ≡ false
and_false true = refl
and_false false = refl

pub and_true : (b : Bool) → (b && true) ≡ b
and_true true = refl
and_true false = refl

module _ (test : ℕ → Bool) where
  pub every_none : every_below 0 test ≡ true
  unfolding every_below
  every_none = refl

  pub every_step : (n : ℕ) → every_below (n + 1) test ≡ (every_below n test && test n)
  unfolding every_below
  every_step n = rw (add-one n)

  pub every_more : (n : ℕ) → every_below n test ≡ true → test n ≡ true → every_below (n + 1) test ≡ true
  unfolding every_below
  every_more n e h = rw (add-one n, e, h)

  pub every_fails : (n k : ℕ) → k < n → test k ≡ false → every_below n test ≡ false
  unfolding every_below
  every_fails zero k l e = absurd (omega arith)
  every_fails (suc n) k l e =
      by_test (eqb k n) (λ q. rw (← eqb-true k n q, e, and_false (every_below k test)))
      (λ q. let m : k < n = omega (arith, eqb-false k n q) in rw (every_fails n k m e))

  -- the test holds at each place, and where it does at each it does at all
  pub every_at : (n k : ℕ) → every_below n test ≡ true → k < n → test k ≡ true
  unfolding every_below
  every_at zero k e l = absurd (omega arith)
  every_at (suc n) k e l =
      let both = both_true (every_below n test) (test n) e in
      by_test (eqb k n) (λ q. rw (eqb-true k n q) both.1)
      (λ q. let m : k < n = omega (arith, eqb-false k n q) in every_at n k both.0 m)

  pub every_from : (n : ℕ) → ((k : ℕ) → k < n → test k ≡ true) → every_below n test ≡ true
  unfolding every_below
  every_from zero h = refl
  every_from (suc n) h = rw (every_from n (λ k l. h k (omega arith)), h n (omega arith))
