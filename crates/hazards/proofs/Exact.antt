-- Rounding leaves a value that binary64 holds as it is, so a fraction that is at least such a value rounds to at least it.
use mathlib.Core.Path.{refl, ◌≡◌, sym, ap, ◌∙◌}
use mathlib.Core.Bool.{Bool, true, false, ◌&&◌, true≢false}
use Prim.Native.Nat.{ℕ, zero, suc, ◌+◌, ◌-◌, ◌*◌, ◌%◌, ◌^◌, ◌≤◌, ◌<◌}
use native.Mathlib.Nat.{le_trans, le_of_eq, lt_of_lt_of_le, lt_of_le_of_lt, le_of_suc-le-suc, lt_of_not-le, not-le_of_lt, mul-one}
use native.Mathlib.Nat.{mul_assoc, zero-mul, mul-le-mul_right, mul-le-mul, mul-lt-mul_of_pos_right, mul-pos}
use native.Mathlib.Omega.{arith}
use lib.IntN.{ℤ, pos, negsuc}
use lib.Dec.{T, leb, ltb, eqb, leb→le, ltb→lt, lit≤, lit<}
use lib.Pow.{pow-add, pow_pos, pow_mono, pow-lt}
use lib.Ieee.{Float, nan, inf, fin, binary64, up, down, round, add, le, fits}
use lib.Ieee.Fits.{and_l, and_r, down_pos}
use lib.Ieee.Exact.{HasValue, round_exact}
use lib.Ieee.Order.{round_mono, transfer}
use Rattle.hazards.proofs.Bounds.{Upto}
use Rattle.hazards.proofs.Signs.{Signed}
use Rattle.hazards.proofs.Upto.{for_fins, own_upto}
use Rattle.hazards.proofs.UptoOrder.{le→cross, cross→le}
use Rattle.hazards.proofs.UptoOperations.{round_signed}

-- what `fits` says of a number above 0
record Fits (m : ℕ) (e : ℤ) : Type 0 where
  digits : m < 2 ^ 53
  low : down e ≤ 2 ^ 1074
  high : m * up e < 2 ^ 1024 * down e

fits_facts : (s : Bool) (m : ℕ) (e : ℤ) → T (fits binary64 (fin s (suc m) e)) → Fits (suc m) e
unfolding fits
fits_facts s m e f =
    let t = eqb (suc m % 2) 1 in
    let u = ltb (suc m) (2 ^ 53) in
    let v = leb (down e) (2 ^ 1074) in
    let w = ltb (suc m * up e) (2 ^ 1024 * down e) in
    record {
      digits = ltb→lt (suc m) (2 ^ 53) (and_r t u (and_l (t && u) v (and_l (t && u && v) w f)));
      low = leb→le (down e) (2 ^ 1074) (and_r (t && u) v (and_l (t && u && v) w f));
      high = ltb→lt (suc m * up e) (2 ^ 1024 * down e) (and_r (t && u && v) w f);
    }

-- ---- rounding a value that is held
scaled : (m k : ℕ) → m * 2 ^ k * 2 ^ 1074 ≡ m * 2 ^ (k + 1074)
scaled m k = mul_assoc m (2 ^ k) (2 ^ 1074) ∙ ap (λ (x : ℕ). m * x) (sym (pow-add 2 k 1074))

above : (m k : ℕ) → m * 2 ^ k < 2 ^ 1024 * 1 → m * 2 ^ (k + 1074) < 2 ^ 2098
above m k h = lt_of_lt_of_le (lt_of_le_of_lt (le_of_eq (sym (scaled m k))) (mul-lt-mul_of_pos_right h (pow_pos 1074))) (lit≤ tt)

small : (k : ℕ) → 2 ^ suc k ≤ 2 ^ 1074 → suc k ≤ 1074
small k h = le_of_suc-le-suc (lt_of_not-le (λ (g : 1075 ≤ suc k). not-le_of_lt (pow-lt {i = 1074} {j = suc k} g) h))

back : (k : ℕ) → suc k ≤ 1074 → 1074 - suc k + suc k ≡ 1074
back k h = omega arith

less : (k : ℕ) → 1074 - suc k ≤ 1074
less k = omega arith

split : (m k : ℕ) → suc k ≤ 1074 → m * 1 * 2 ^ 1074 ≡ m * 2 ^ (1074 - suc k) * 2 ^ suc k
split m k l =
    ap (λ (x : ℕ). x * 2 ^ 1074) (mul-one m)
    ∙ ap (λ (x : ℕ). m * 2 ^ x) (sym (back k l))
    ∙ ap (λ (x : ℕ). m * x) (pow-add 2 (1074 - suc k) (suc k))
    ∙ sym (mul_assoc m (2 ^ (1074 - suc k)) (2 ^ suc k))

pub round_held : (s t : Bool) (m : ℕ) (e : ℤ) → T (fits binary64 (fin t m e))
    → HasValue (round binary64 s (m * up e) (down e)) s (m * up e) (down e)
round_held s t zero e f =
    round_exact binary64 s (0 * up e) (down e) 0 0 (down_pos e) (lit< tt) (lit< tt)
    (ap (λ (x : ℕ). x * 2 ^ 1074) (zero-mul (up e)) ∙ sym (zero-mul (down e)))
round_held s t (suc m) (pos k) f =
    let g = fits_facts t m (pos k) f in
    round_exact binary64 s (suc m * 2 ^ k) 1 (suc m) (k + 1074) (lit< tt) g.digits (above (suc m) k g.high)
    (scaled (suc m) k ∙ sym (mul-one (suc m * 2 ^ (k + 1074))))
round_held s t (suc m) (negsuc k) f =
    let g = fits_facts t m (negsuc k) f in
    round_exact binary64 s (suc m * 1) (2 ^ suc k) (suc m) (1074 - suc k) (pow_pos (suc k)) g.digits
    (lt_of_lt_of_le (mul-lt-mul_of_pos_right g.digits (pow_pos (1074 - suc k)))
    (le_trans (mul-le-mul (le_of_eq refl) (pow_mono {i = 1074 - suc k} {j = 1074} (less k))) (lit≤ tt)))
    (split (suc m) k (small k g.low))

-- ---- lower bounds

-- r has the value of `fin false m e`
same-le : (m : ℕ) (e : ℤ) (r y : Float) → HasValue r false (m * up e) (down e) → Signed false y → T (le r y) → T (le (fin false m e) y)
same-le m e nan y v s h = absurd v
same-le m e (inf t) y v s h = absurd v
same-le m e (fin true k g) y v s h = absurd (true≢false v.0)
same-le m e (fin false k g) nan v s h = absurd s
same-le m e (fin false k g) (inf true) v s h = absurd (true≢false s)
same-le m e (fin false k g) (inf false) v s h = unfold le in tt
same-le m e (fin false k g) (fin true n d) v s h = absurd (true≢false s)
same-le m e (fin false k g) (fin false n d) v s h =
    cross→le (own_upto m e) (own_upto n d)
    (transfer (m * up e) (n * up d) (down e) (down d) (k * up g) (n * up d) (down g) (down d) (down_pos g) (down_pos d)
    (sym v.1) refl (le→cross (own_upto k g) (own_upto n d) h))

pub round_at_least : (m : ℕ) (e : ℤ) (a c : ℕ) → T (fits binary64 (fin false m e)) → 0 < c → m * up e * c ≤ a * down e
    → T (le (fin false m e) (round binary64 false a c))
round_at_least m e a c f C h =
    same-le m e (round binary64 false (m * up e) (down e)) (round binary64 false a c) (round_held false false m e f)
    (round_signed binary64 false a c) (round_mono binary64 (m * up e) (down e) a c (down_pos e) C h)

grown : (x y d p q r : ℕ) → x * q ≤ y * p → x * (q * r) ≤ (y * r + d * q) * p
grown x y d p q r h =
    let k : x * q * r ≤ y * p * r = mul-le-mul_right r h in
    omega arith

-- x ≤ y, and what is added to y has a clear sign
pub sum-at-least : {a b : ℕ} {x y : Float} (d : Float) → T (fits binary64 x) → Upto a x → Upto b y → T (le x y) → Signed false d
    → T (le x (add binary64 y d))
sum-at-least d f u v o s = for_fins (λ (x y : Float). T (fits binary64 x) → T (le x y) → T (le x (add binary64 y d))) (go d s) u v f o
  where
    go : (d : Float) → Signed false d → (m : ℕ) (e : ℤ) (n : ℕ) (g : ℤ) → T (fits binary64 (fin false m e))
        → T (le (fin false m e) (fin false n g)) → T (le (fin false m e) (add binary64 (fin false n g) d))
    go nan s m e n g f o = absurd s
    go (inf true) s m e n g f o = absurd (true≢false s)
    go (inf false) s m e n g f o = unfold add le in tt
    go (fin true k l) s m e n g f o = absurd (true≢false s)
    go (fin false k l) s m e n g f o =
        unfold add in
        round_at_least m e (n * up g * down l + k * up l * down g) (down g * down l) f (mul-pos (down_pos g) (down_pos l))
        (grown (m * up e) (n * up g) (k * up l) (down e) (down g) (down l) (le→cross (own_upto m e) (own_upto n g) o))
