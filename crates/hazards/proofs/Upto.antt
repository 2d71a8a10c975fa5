-- A value that is `Upto` some bound is the fraction num / den, and a claim on such values is one on `fin false`. Where a bound rounds to.
use mathlib.Core.Path.{sym}
use mathlib.Core.Bool.{Bool, true, false, not, cond}
use Prim.Native.Nat.{ℕ, ◌*◌, ◌≤◌, zero-le}
use native.Mathlib.Nat.{le_refl, le_trans, le_of_eq, mul-one, mul-le-mul, mul-le-mul_right}
use lib.IntN.{ℤ}
use lib.Dec.{T, leb→le, le→leb}
use lib.Ieee.{Float, nan, inf, fin, binary64, up, down, round}
use lib.Ieee.Fits.{down_pos}
use lib.Ieee.Positive.{num, den}
use Rattle.hazards.specs.Floats.{z}
use Rattle.hazards.proofs.Bounds.{upto, Upto}

-- what holds of every finite value with a clear sign holds of x
pub for_fin : (P : Float → Type 0) → ((m : ℕ) (e : ℤ) → P (fin false m e)) → {b : ℕ} {x : Float} → Upto b x → P x
for_fin P f {b} {x} u = go x u.holds
  where
    go : (x : Float) → T (upto b x) → P x
    go nan u = absurd u
    go (inf s) u = absurd u
    go (fin true m e) u = absurd u
    go (fin false m e) u = f m e

-- of two of them
pub for_fins : (P : Float → Float → Type 0) → ((m : ℕ) (e : ℤ) (n : ℕ) (d : ℤ) → P (fin false m e) (fin false n d))
    → {a b : ℕ} {x y : Float} → Upto a x → Upto b y → P x y
for_fins P f {x} {y} u v =
    for_fin (λ (w : Float). P w y) (λ (m : ℕ) (e : ℤ). for_fin (λ (w : Float). P (fin false m e) w) (λ (n : ℕ) (d : ℤ). f m e n d) v) u

pub num_upto : {b : ℕ} {x : Float} → Upto b x → num x ≤ b * den x
num_upto {b} {x} u = go x u.holds
  where
    go : (x : Float) → T (upto b x) → num x ≤ b * den x
    go nan u = absurd u
    go (inf s) u = absurd u
    go (fin true m e) u = absurd u
    go (fin false m e) u = leb→le (m * up e) (b * down e) u

-- some bound of its own
pub own_upto : (m : ℕ) (e : ℤ) → Upto (m * up e) (fin false m e)
own_upto m e = record {
  holds =
      le→leb (m * up e) (m * up e * down e)
      (le_trans (le_of_eq (sym (mul-one (m * up e)))) (mul-le-mul (le_refl (m * up e)) (down_pos e)));
}

-- a larger bound
pub wider : {a : ℕ} {x : Float} (b : ℕ) → a ≤ b → Upto a x → Upto b x
wider {a} {x} b h u =
    for_fin (λ (w : Float). num w ≤ a * den w → Upto b w)
    (λ (m : ℕ) (e : ℤ) k. record { holds = le→leb (m * up e) (b * down e) (le_trans k (mul-le-mul_right (down e) h)) }) u
    (num_upto u)

pub zero_upto : (b : ℕ) → Upto b z
zero_upto b = record { holds = le→leb (0 * 1) (b * 1) zero-le }

-- the whole number n rounds to at most b: a test that computes where both are written out
unfoldable pub lands : ℕ → ℕ → Bool
lands n b = upto b (round binary64 false n 1)

pub either_upto : {b : ℕ} {x y : Float} (t : Bool) → (T t → Upto b x) → (T (not t) → Upto b y) → Upto b (cond t x y)
either_upto true f g = f tt
either_upto false f g = g tt
