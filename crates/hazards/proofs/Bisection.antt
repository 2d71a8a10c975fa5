-- The first place at which a test holds, by bisection: the test is one that goes on holding once it holds.
use mathlib.Core.Path.{◌≡◌, sym, ◌∙◌}
use mathlib.Core.Bool.{Bool, true, false, true≢false}
use Prim.Native.Nat.{ℕ, zero, suc, ◌+◌, ◌-◌, ◌^◌, ◌≤◌, ◌<◌}
use native.Mathlib.Nat.{le_antisymm, lt_of_not-le, le_of_suc-le-suc}
use native.Mathlib.Omega.{arith}
use lib.Pow.{pow_pos}
use Rattle.hazards.specs.FirstPlace.{FirstPlace, Between, first_of}
use Rattle.hazards.proofs.Cases.{by_test}

-- once it holds, it holds at every later place
abbrev pub GoesOn : (ℕ → Bool) → ℕ → ℕ → Type 0
GoesOn test from end = (a b : ℕ) → from ≤ a → a ≤ b → b < end → test a ≡ true → test b ≡ true

module _ {test : ℕ → Bool} {from end : ℕ} where
  pub whole : from ≤ end → Between test from end from end
  whole h = record {
    begins = omega arith;
    ordered = h;
    ends = omega arith;
    before = λ i l k. absurd (omega arith);
    holds = λ k. absurd (omega arith);
  }

  -- it holds in the middle
  pub lower_half : {low high middle : ℕ} → Between test from end low high → low ≤ middle → middle < high → test middle ≡ true
      → Between test from end low middle
  lower_half v l k t = record {
    begins = v.begins;
    ordered = l;
    ends = omega (arith, v.ends);
    before = v.before;
    holds = λ h. t;
  }

  -- it does not
  pub upper_half : {low high middle : ℕ} → GoesOn test from end → Between test from end low high → low ≤ middle → middle < high
      → test middle ≡ false → Between test from end (middle + 1) high
  upper_half {low} {high} {middle} m v l k t = record {
    begins = omega (arith, v.begins);
    ordered = omega arith;
    ends = v.ends;
    before = λ i b h. by_test (test i)
        (λ e. absurd (true≢false (sym (m i middle b (omega arith) (omega (arith, v.ends)) e) ∙ t)))
        (λ e. e);
    holds = v.holds;
  }

  -- the halves have met
  pub found : {low high : ℕ} → Between test from end low high → high ≤ low → FirstPlace test from end low
  found v h = record {
    begins = v.begins;
    ends = omega (arith, v.ordered, v.ends);
    before = v.before;
    holds = λ k. rw (le_antisymm h v.ordered) at (v.holds (omega (arith, v.ordered)));
  }

  -- two neighbours: the test fails at the one and holds at the other
  pub at_step : {place : ℕ} → GoesOn test from end → from ≤ place → place + 1 < end → test place ≡ false → test (place + 1) ≡ true
      → FirstPlace test from end (place + 1)
  at_step m l h f t =
      found (lower_half (upper_half m (whole (omega arith)) l (omega arith) f) (omega arith) h t) (omega arith)

  -- it holds at the first of all places
  pub at_start : from < end → test from ≡ true → FirstPlace test from end from
  at_start h t = found (lower_half (whole (omega arith)) (omega arith) h t) (omega arith)

  -- it fails at the last
  pub at_none : {place : ℕ} → GoesOn test from end → from ≤ place → place + 1 ≡ end → test place ≡ false
      → FirstPlace test from end (place + 1)
  at_none m l h f = found (upper_half m (whole (omega arith)) l (omega arith) f) (omega arith)

  -- no place but one is the first
  pub one_first : {a b : ℕ} → FirstPlace test from end a → FirstPlace test from end b → a ≡ b
  one_first {a} {b} p q = le_antisymm (go p q) (go q p)
    where
      go : {a b : ℕ} → FirstPlace test from end a → FirstPlace test from end b → a ≤ b
      go {a} {b} p q =
          le_of_suc-le-suc
          (lt_of_not-le
          (λ (l : suc b ≤ a). true≢false (sym (q.holds (omega (arith, p.ends))) ∙ p.before b q.begins l)))

  -- it is one of the 2^k places from `low` on: `first_of` finds it by halves
  halved : (k low : ℕ) → GoesOn test from end → Between test from end low (low + 2 ^ k - 1) → FirstPlace test from end (first_of test k low)
  unfolding first_of
  halved zero low m v = found v (omega arith)
  halved (suc k) low m v =
      let p = pow_pos k in
      let e : low + 2 ^ k - 1 + 1 ≡ low + 2 ^ k = omega arith in
      let f : low + 2 ^ suc k - 1 ≡ low + 2 ^ k + 2 ^ k - 1 = omega arith in
      by_test (test (low + 2 ^ k - 1))
      (λ t. rw t (halved k low m (lower_half v (omega arith) (omega arith) t)))
      (λ t. rw t (halved k (low + 2 ^ k) m (rw (e, f) at (upper_half m v (omega arith) (omega arith) t))))

-- over the 2^k places from `from` on, where the test holds at the last of them
pub first-of : (test : ℕ → Bool) (k from : ℕ) → GoesOn test from (from + 2 ^ k) → test (from + 2 ^ k - 1) ≡ true
    → FirstPlace test from (from + 2 ^ k) (first_of test k from)
first-of test k from m t =
    let p = pow_pos k in
    halved k from m (lower_half (whole (omega arith)) (omega arith) (omega arith) t)
