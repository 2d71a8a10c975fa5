-- The order of floats that are finite and not below 0, -0.0 among them, is that of their fractions num / den.
use mathlib.Core.Path.{◌≡◌, refl, sym, ◌∙◌, ap}
use mathlib.Core.Logic.{inl, inr}
use mathlib.Core.Bool.{Bool, true, false, ◌&&◌, ◌||◌, beq, true≢false}
use Prim.Native.Nat.{ℕ, ◌+◌, ◌*◌, ◌≤◌}
use native.Mathlib.Nat.{zero-mul, eq-or-lt_of_le, mul-one}
use native.Mathlib.Omega.{arith}
use borrow.Author.Tests.{ltb-true, ltb-false, eqb-true, lt-ltb, le-ltb, eq-eqb}
use lib.Dec.{T, ltb, eqb, eqb→eq}
use lib.Ieee.{Float, nan, inf, fin, up, down, below, level, lt, le, eq}
use lib.Ieee.Fits.{and_l}
use lib.Ieee.Positive.{num, den, den_pos, through}
use Rattle.hazards.specs.Floats.{is_finite_wait}
use Rattle.hazards.proofs.Cases.{both_true}

-- ---- finite and not below 0, and a negative number only as -0.0

abbrev Finite : Float → Type 0
Finite nan = ⊥
Finite (inf s) = ⊥
Finite (fin s m e) = s ≡ true → m * up e ≡ 0

finite : (x : Float) → T (is_finite_wait x) → Finite x
unfolding is_finite_wait le lt eq
finite nan h = absurd h
finite (inf true) h = absurd h
finite (inf false) h = absurd h
finite (fin false m e) h = λ s. absurd (true≢false (sym s))
finite (fin true m e) h = λ s.
    let level = and_l (eqb (0 * 1 * down e) (m * up e * 1) && (false || eqb (0 * 1 * down e) 0)) true h in
    let same = eqb→eq (0 * 1 * down e) (m * up e * 1) (and_l (eqb (0 * 1 * down e) (m * up e * 1)) _ level) in
    sym (mul-one (m * up e)) ∙ sym same ∙ zero-mul (down e)

-- ---- `lt` is the order of the fractions

-- a number with its sign set is 0
below_is : (s t : Bool) (a b : ℕ) → (s ≡ true → a ≡ 0) → (t ≡ true → b ≡ 0) → below s a t b ≡ ltb a b
below_is false false a b f g = refl
below_is false true a b f g = sym (le-ltb a b (omega (arith, g refl)))
below_is true false a b f g = let e : a + b ≡ b = omega (arith, f refl) in rw e (ap (λ (k : ℕ). ltb k b) (sym (f refl)))
below_is true true a b f g = rw (f refl, g refl)

scaled : (a c : ℕ) → a ≡ 0 → a * c ≡ 0
scaled a c h = ap (λ (k : ℕ). k * c) h ∙ zero-mul c

lt-is : (x y : Float) → Finite x → Finite y → lt x y ≡ ltb (num x * den y) (num y * den x)
unfolding lt
lt-is nan y f g = absurd f
lt-is (inf s) y f g = absurd f
lt-is (fin s m e) nan f g = absurd g
lt-is (fin s m e) (inf t) f g = absurd g
lt-is (fin s m e) (fin t n d) f g =
    below_is s t (m * up e * down d) (n * up d * down e) (λ p. scaled (m * up e) (down d) (f p)) (λ p. scaled (n * up d) (down e) (g p))

module _ (x y : Float) (f : T (is_finite_wait x)) (g : T (is_finite_wait y)) where
  pub finite-lt : lt x y ≡ ltb (num x * den y) (num y * den x)
  finite-lt = lt-is x y (finite x f) (finite y g)

  pub not-lt-cross : lt x y ≡ false → num y * den x ≤ num x * den y
  not-lt-cross h = ltb-false (num x * den y) (num y * den x) (sym finite-lt ∙ h)

  pub cross-not-lt : num y * den x ≤ num x * den y → lt x y ≡ false
  cross-not-lt h = finite-lt ∙ le-ltb (num x * den y) (num y * den x) h

-- ---- `eq` and `le`

pub eq-cross : (x y : Float) → eq x y ≡ true → num x * den y ≡ num y * den x
unfolding eq
eq-cross nan y h = absurd (true≢false (sym h))
eq-cross (inf s) nan h = absurd (true≢false (sym h))
eq-cross (inf s) (inf t) h = refl
eq-cross (inf s) (fin t n d) h = absurd (true≢false (sym h))
eq-cross (fin s m e) nan h = absurd (true≢false (sym h))
eq-cross (fin s m e) (inf t) h = absurd (true≢false (sym h))
eq-cross (fin s m e) (fin t n d) h =
    let a = m * up e * down d in
    let b = n * up d * down e in
    eqb-true a b (both_true (eqb a b) (beq s t || eqb a 0) h).0

pub eq_not_lt : (x y : Float) → T (is_finite_wait x) → T (is_finite_wait y) → eq x y ≡ true → lt y x ≡ false
eq_not_lt x y f g h = cross-not-lt y x g f (omega (arith, eq-cross x y h))

level_is : (s t : Bool) (a b : ℕ) → (s ≡ true → a ≡ 0) → (t ≡ true → b ≡ 0) → a ≡ b → level s a t b ≡ true
level_is false false a b f g h = rw (eq-eqb a b h)
level_is true true a b f g h = rw (eq-eqb a b h)
level_is false true a b f g h = rw (eq-eqb a b h, eq-eqb a 0 (h ∙ g refl))
level_is true false a b f g h = rw (eq-eqb a b h, eq-eqb a 0 (f refl))

eq_is : (x y : Float) → Finite x → Finite y → num x * den y ≡ num y * den x → eq x y ≡ true
unfolding eq
eq_is nan y f g h = absurd f
eq_is (inf s) y f g h = absurd f
eq_is (fin s m e) nan f g h = absurd g
eq_is (fin s m e) (inf t) f g h = absurd g
eq_is (fin s m e) (fin t n d) f g h =
    level_is s t (m * up e * down d) (n * up d * down e) (λ p. scaled (m * up e) (down d) (f p)) (λ p. scaled (n * up d) (down e) (g p)) h

pub eq_self : (x : Float) → T (is_finite_wait x) → eq x x ≡ true
eq_self x f = eq_is x x (finite x f) (finite x f) refl

or_true : (a b : Bool) → b ≡ true → (a || b) ≡ true
or_true true b h = refl
or_true false b h = h

pub cross-le : (x y : Float) → T (is_finite_wait x) → T (is_finite_wait y) → num x * den y ≤ num y * den x → le x y ≡ true
unfolding le
cross-le x y f g h =
    elim (eq-or-lt_of_le h) [
      | inl p ↦ or_true (lt x y) (eq x y) (eq_is x y (finite x f) (finite y g) p)
      | inr p ↦ rw (finite-lt x y f g ∙ lt-ltb (num x * den y) (num y * den x) p)
    ]

-- ---- not below is transitive

pub not-lt-trans : (x y w : Float) → T (is_finite_wait x) → T (is_finite_wait y) → T (is_finite_wait w) → lt x y ≡ false → lt y w ≡ false
    → lt x w ≡ false
not-lt-trans x y w f g h p q =
    cross-not-lt x w f h
    (through (num w) (num y) (num x) (den w) (den y) (den x) (den_pos y) (not-lt-cross y w g h q) (not-lt-cross x y f g p))

-- what is below another is not above it
pub lt-not-lt : (x y : Float) → T (is_finite_wait x) → T (is_finite_wait y) → lt x y ≡ true → lt y x ≡ false
lt-not-lt x y f g h =
    cross-not-lt y x g f
    (let p = ltb-true (num x * den y) (num y * den x) (sym (finite-lt x y f g) ∙ h) in omega arith)

pub not-lt-self : (x : Float) → T (is_finite_wait x) → lt x x ≡ false
not-lt-self x f = cross-not-lt x x f f (omega arith)
