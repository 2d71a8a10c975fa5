-- Sums, products, quotients and differences of values that are `Upto` some bound: each is one rounding, of a fraction whose bound says where it lands.
use mathlib.Core.Path.{◌≡◌, refl}
use mathlib.Core.Bool.{Bool, true, false, cond}
use Prim.Native.Nat.{ℕ, zero, suc, ◌+◌, ◌-◌, ◌*◌, ◌/◌, ◌%◌, ◌^◌, ◌≤◌, ◌<◌, compare}
use native.Mathlib.Nat.{le_trans, le_of_eq, sub-le, mul-one, mul_assoc, mul-le-mul_right, mul-le-mul, mul-mul-mul_comm, mul-pos}
use native.Mathlib.Nat.{not-le_of_lt, lt_irrefl, zero-mul}
use native.Mathlib.Omega.{arith}
use borrow.Author.Tests.{ne_eqb}
use lib.IntN.{ℤ}
use lib.Dec.{T, not_T, eqb, ltb, ltb→lt, lit<}
use lib.Ieee.{Float, inf, Format, prec, emax, low, binary64, up, size, nearest, odd, units, round, add, sub, mul, div, le}
use lib.Ieee.Fits.{round_is}
use lib.Ieee.Order.{round_mono}
use lib.Ieee.Bits.{cond_no}
use lib.Ieee.Positive.{num, den, den_pos}
use Rattle.hazards.proofs.Bounds.{Upto}
use Rattle.hazards.proofs.Signs.{Signed}
use Rattle.hazards.proofs.Upto.{for_fins, num_upto, lands}
use Rattle.hazards.proofs.UptoOrder.{le→cross, upto_le}

-- ---- a rounded fraction has the sign that was given
odd_signed : (d : ℕ) (s : Bool) (q k l : ℕ) → Signed s (odd d s q k l)
unfolding odd
odd_signed d s zero k l = refl
odd_signed d s (suc q) k l = refl

units_signed : (f : Format) (s : Bool) (q k : ℕ) → Signed s (units f s q k)
unfolding units
units_signed f s q k = go (ltb (q * 2 ^ k) (2 ^ (low f + suc (emax f))))
  where
    go : (b : Bool) → Signed s (cond b (odd (suc (prec f)) s q k (low f)) (inf s))
    go true = odd_signed (suc (prec f)) s q k (low f)
    go false = refl

pub round_signed : (f : Format) (s : Bool) (a c : ℕ) → Signed s (round f s a c)
round_signed f s a c =
    let n = a * 2 ^ low f in
    let k = size (n / c) - prec f in
    rw (round_is f s a c) (units_signed f s (nearest (n / (c * 2 ^ k)) (compare (n % (c * 2 ^ k) * 2) (c * 2 ^ k))) k)

-- a fraction that is at most n rounds to at most where n lands
pub round_upto : {b : ℕ} (a c n : ℕ) → 0 < c → a ≤ n * c → T (lands n b) → Upto b (round binary64 false a c)
unfolding lands
round_upto a c n C h l =
    upto_le (round binary64 false a c) (round_signed binary64 false a c)
    (round_mono binary64 a c n 1 C (lit< tt) (le_trans (le_of_eq (mul-one a)) h)) (record { holds = l })

-- ---- each operation as one rounding
pub add_is : {a b : ℕ} {x y : Float} → Upto a x → Upto b y
    → add binary64 x y ≡ round binary64 false (num x * den y + num y * den x) (den x * den y)
unfolding add
add_is u v =
    for_fins (λ (x y : Float). add binary64 x y ≡ round binary64 false (num x * den y + num y * den x) (den x * den y))
    (λ (m : ℕ) (e : ℤ) (n : ℕ) (d : ℤ). refl) u v

pub mul_is : {a b : ℕ} {x y : Float} → Upto a x → Upto b y → mul binary64 x y ≡ round binary64 false (num x * num y) (den x * den y)
unfolding mul
mul_is u v =
    for_fins (λ (x y : Float). mul binary64 x y ≡ round binary64 false (num x * num y) (den x * den y))
    (λ (m : ℕ) (e : ℤ) (n : ℕ) (d : ℤ). refl) u v

divisor_counts : (n k : ℕ) → 0 < n * k → eqb n 0 ≡ false
divisor_counts zero k h = absurd (lt_irrefl 0 (rw (zero-mul k) at h))
divisor_counts (suc n) k h = ne_eqb (suc n) 0 (omega arith)

pub div_is : {a b : ℕ} {x y : Float} → Upto a x → Upto b y → 0 < num y
    → div binary64 x y ≡ round binary64 false (num x * den y) (num y * den x)
unfolding div
div_is u v =
    for_fins (λ (x y : Float). 0 < num y → div binary64 x y ≡ round binary64 false (num x * den y) (num y * den x))
    (λ (m : ℕ) (e : ℤ) (n : ℕ) (d : ℤ). λ (h : 0 < n * up d). rw (divisor_counts n (up d) h)) u v

-- A / c - B / c, whose sign is set where it is below 0
abbrev pub rounded_difference : Bool → ℕ → ℕ → ℕ → Float
rounded_difference below A B c = cond below (round binary64 true (B - A) c) (round binary64 false (A - B) c)

pub sub_is : {a b : ℕ} {x y : Float} → Upto a x → Upto b y
    → sub binary64 x y
    ≡ rounded_difference (ltb (num x * den y) (num y * den x)) (num x * den y) (num y * den x) (den x * den y)
unfolding sub
sub_is u v =
    for_fins
    (λ (x y : Float).
    sub binary64 x y ≡ rounded_difference (ltb (num x * den y) (num y * den x)) (num x * den y) (num y * den x) (den x * den y))
    (λ (m : ℕ) (e : ℤ) (n : ℕ) (d : ℤ). refl) u v

not_below : (A B c : ℕ) → B ≤ A → rounded_difference (ltb A B) A B c ≡ round binary64 false (A - B) c
not_below A B c h =
    cond_no (ltb A B) (round binary64 true (B - A) c) (round binary64 false (A - B) c)
    (not_T (ltb A B) (λ (t : T (ltb A B)). not-le_of_lt (ltb→lt A B t) h))

-- where y ≤ x
pub sub-up-is : {a b : ℕ} {x y : Float} → Upto a x → Upto b y → T (le y x)
    → sub binary64 x y ≡ round binary64 false (num x * den y - num y * den x) (den x * den y)
sub-up-is {x} {y} u v o = rw (sub_is u v) (not_below (num x * den y) (num y * den x) (den x * den y) (le→cross v u o))

-- ---- and its bound
sum-within : (m n p q a b : ℕ) → m ≤ a * p → n ≤ b * q → m * q + n * p ≤ (a + b) * (p * q)
sum-within m n p q a b h k =
    let x : m * q ≤ a * p * q = mul-le-mul_right q h in
    let y : n * p ≤ b * q * p = mul-le-mul_right p k in
    omega arith

pub add-upto : {a b : ℕ} {x y : Float} (c : ℕ) → Upto a x → Upto b y → T (lands (a + b) c) → Upto c (add binary64 x y)
add-upto {a} {b} {x} {y} c u v l =
    rw (add_is u v)
    (round_upto (num x * den y + num y * den x) (den x * den y) (a + b) (mul-pos (den_pos x) (den_pos y))
    (sum-within (num x) (num y) (den x) (den y) a b (num_upto u) (num_upto v)) l)

pub mul-upto : {a b : ℕ} {x y : Float} (c : ℕ) → Upto a x → Upto b y → T (lands (a * b) c) → Upto c (mul binary64 x y)
mul-upto {a} {b} {x} {y} c u v l =
    rw (mul_is u v)
    (round_upto (num x * num y) (den x * den y) (a * b) (mul-pos (den_pos x) (den_pos y))
    (le_trans (mul-le-mul (num_upto u) (num_upto v)) (le_of_eq (mul-mul-mul_comm a (den x) b (den y)))) l)

quotient_within : (m n p q a k : ℕ) → m ≤ a * p → q ≤ k * n → m * q ≤ a * k * (n * p)
quotient_within m n p q a k h l = le_trans (mul-le-mul h l) (le_of_eq (omega arith))

-- by a y of 1 / k or more
pub div-upto : {a b : ℕ} {x y : Float} (k c : ℕ) → Upto a x → Upto b y → 0 < num y → den y ≤ k * num y → T (lands (a * k) c)
    → Upto c (div binary64 x y)
div-upto {a} {b} {x} {y} k c u v p h l =
    rw (div_is u v p)
    (round_upto (num x * den y) (num y * den x) (a * k) (mul-pos p (den_pos x))
    (quotient_within (num x) (num y) (den x) (den y) a k (num_upto u) h) l)

scaled_within : (m p q a : ℕ) → m ≤ a * p → m * q ≤ a * (p * q)
scaled_within m p q a h = le_trans (mul-le-mul_right q h) (le_of_eq (mul_assoc a p q))

-- what is taken away leaves at most x
pub less_upto : {a b : ℕ} {x y : Float} (c : ℕ) → Upto a x → Upto b y → T (lands a c)
    → Upto c (round binary64 false (num x * den y - num y * den x) (den x * den y))
less_upto {a} {b} {x} {y} c u v l =
    round_upto (num x * den y - num y * den x) (den x * den y) a (mul-pos (den_pos x) (den_pos y))
    (le_trans (sub-le (num x * den y) (num y * den x)) (scaled_within (num x) (den x) (den y) a (num_upto u))) l

pub sub-upto : {a b : ℕ} {x y : Float} (c : ℕ) → Upto a x → Upto b y → T (le y x) → T (lands a c) → Upto c (sub binary64 x y)
sub-upto c u v o l = rw (sub-up-is u v o) (less_upto c u v l)
