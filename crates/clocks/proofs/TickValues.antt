-- What whole_ticks is at each kind of bit pattern.
use mathlib.Core.Path.{◌≡◌, refl, sym, ◌∙◌, ap, subst}
use mathlib.Core.Bool.{Bool, true, false, cond, not}
use Prim.Native.Nat.{ℕ, zero, suc, ◌+◌, ◌-◌, ◌*◌, ◌/◌, ◌%◌, ◌^◌, ◌<◌, ◌≤◌, min}
use native.Mathlib.Nat.{min-eq_left, min-eq_right, mod-eq_of_lt, le_trans, lt_of_lt_of_le, mul-le-mul_left, mul-le-mul_right}
use native.Mathlib.Nat.{mul_assoc, mul-pos, add_comm}
use native.Mathlib.Omega.{arith}
use lib.Dec.{T, leb, ltb, eqb, lit≤}
use lib.Pow.{pow-add, pow_pos, pow_mono, shl_lt, le_ones}
use borrow.Author.Tests.{lt-leb, le-leb, lt-ltb, ne_eqb, leb-true, leb-false, ltb-true, ltb-false}
use lib.Ieee.{Float, nan, inf, fin, up, down, odd, of_fields, of_bits, is_nan, binary64}
use lib.Ieee.Exact.{HasValue, odd_sign}
use lib.Ieee.Fits.{down_pos}
use lib.Ieee.Bits.{nan_bits_is, nan_bits_above}
use Rattle.clocks.specs.Ticks.{nearest_up, whole_ticks}
use Rattle.clocks.proofs.TickRounding.{up_same, up_cancel, up_zero, up_whole, up_bound}

-- ---- by the value
ticks_value : (x : Float) (a c : ℕ) → 0 < c → HasValue x false a c → whole_ticks x ≡ min (nearest_up a c) (2 ^ 128 - 1)
unfolding whole_ticks
ticks_value nan a c h v = absurd v
ticks_value (inf s) a c h v = absurd v
ticks_value (fin true m e) a c h v = absurd (subst (λ (b : Bool). T b) v.0 tt)
ticks_value (fin false m e) a c h v =
    ap (λ (n : ℕ). min n (2 ^ 128 - 1)) (up_same (m * up e) (down e) a c (down_pos e) h v.1)

-- ---- negative, or a NaN
odd_negative : (d q k l : ℕ) → whole_ticks (odd d true q k l) ≡ 0
unfolding whole_ticks odd
odd_negative d zero k l = refl
odd_negative d (suc q) k l = refl

either : (a b : Bool) (x : Float) → whole_ticks x ≡ 0 → whole_ticks (cond a (cond b (inf true) nan) x) ≡ 0
unfolding whole_ticks
either true true x h = refl
either true false x h = refl
either false b x h = h

negative : (e t : ℕ) → whole_ticks (of_fields binary64 true e t) ≡ 0
unfolding of_fields
negative zero t = odd_negative 53 t 0 1074
negative (suc k) t =
    either (eqb (suc k) 2047) (eqb t 0) (odd 53 true (2 ^ 52 + t) k 1074) (odd_negative 53 (2 ^ 52 + t) k 1074)

pub nan_ticks : (x : Float) → is_nan x ≡ true → whole_ticks x ≡ 0
unfolding whole_ticks is_nan
nan_ticks nan h = refl
nan_ticks (inf s) h = absurd (subst (λ (b : Bool). T (not b)) h tt)
nan_ticks (fin s m e) h = absurd (subst (λ (b : Bool). T (not b)) h tt)

signed : (b : ℕ) → 2 ^ 63 ≤ b → whole_ticks (of_bits binary64 b) ≡ 0
unfolding of_bits
signed b h = rw (le-leb (2 ^ 63) b h) (negative (b % 2 ^ 63 / 2 ^ 52) (b % 2 ^ 52))

pub ticks_off : (b : ℕ) → 0x7ff0_0000_0000_0000 < b → whole_ticks (of_bits binary64 b) ≡ 0
ticks_off b h = go (leb (2 ^ 63) b) refl
  where
    go : (t : Bool) → leb (2 ^ 63) b ≡ t → whole_ticks (of_bits binary64 b) ≡ 0
    go true e = signed b (omega (arith, leb-true (2 ^ 63) b e))
    go false e =
        let small : b < 2 ^ 63 = leb-false (2 ^ 63) b e in
        nan_ticks (of_bits binary64 b)
        (sym (nan_bits_is binary64 b) ∙ nan_bits_above binary64 b
        ∙ lt-ltb 0x7ff0_0000_0000_0000 (b % 2 ^ 63) (rw (mod-eq_of_lt small) h))

-- ---- the fields of a pattern with the sign clear
pub fields : (b : ℕ) → b ≤ 0x7ff0_0000_0000_0000
    → whole_ticks (of_bits binary64 b) ≡ whole_ticks (of_fields binary64 false (b / 2 ^ 52) (b % 2 ^ 52))
unfolding of_bits
fields b h =
    let small : b < 2 ^ 63 = omega arith in
    rw (lt-leb (2 ^ 63) b small, mod-eq_of_lt small)

normal : (k t : ℕ) → suc k < 2047 → HasValue (of_fields binary64 false (suc k) t) false ((2 ^ 52 + t) * 2 ^ k) (2 ^ 1074)
unfolding of_fields
normal k t h = rw (ne_eqb (suc k) 2047 (omega arith)) (odd_sign 53 false (2 ^ 52 + t) k 1074)

subnormal : (t : ℕ) → HasValue (of_fields binary64 false 0 t) false (t * 2 ^ 0) (2 ^ 1074)
unfolding of_fields
subnormal t = odd_sign 53 false t 0 1074

-- ---- below a half
half : (a j l : ℕ) → a < 2 ^ j → suc j ≤ l → 2 * a < 2 ^ l
half a j l h k = lt_of_lt_of_le (omega (arith, h)) (pow_mono k)

pub ticks_small : (e t : ℕ) → e < 1022 → t < 2 ^ 52 → whole_ticks (of_fields binary64 false e t) ≡ 0
ticks_small zero t h d =
    ticks_value _ _ _ (pow_pos 1074) (subnormal t)
    ∙ ap (λ (n : ℕ). min n (2 ^ 128 - 1))
    (up_zero (t * 2 ^ 0) (2 ^ 1074) (half (t * 2 ^ 0) (52 + 0) 1074 (shl_lt 52 0 d) (omega arith)))
ticks_small (suc k) t h d =
    let q = (2 ^ 52 + t) * 2 ^ k in
    ticks_value _ _ _ (pow_pos 1074) (normal k t (omega arith))
    ∙ ap (λ (n : ℕ). min n (2 ^ 128 - 1))
    (up_zero q (2 ^ 1074) (half q (53 + k) 1074 (shl_lt 53 k (omega arith)) (omega arith)))

-- ---- from a half on
from_low : (a l n : ℕ) (x : Float) → HasValue x false a (2 ^ l) → nearest_up a (2 ^ l) ≡ n → n < 2 ^ 128 → whole_ticks x ≡ n
from_low a l n x v e h =
    ticks_value x a (2 ^ l) (pow_pos l) v ∙ ap (λ (y : ℕ). min y (2 ^ 128 - 1)) e ∙ min-eq_left (le_ones 128 h)

-- q * 2 ^ k over 2 ^ l, where l = s + k, is q over 2 ^ s; where k = i + l it is q * 2 ^ i
over : (q s k l : ℕ) → s + k ≡ l → nearest_up (q * 2 ^ k) (2 ^ l) ≡ nearest_up q (2 ^ s)
over q s k l h =
    ap (λ (y : ℕ). nearest_up (q * 2 ^ k) y) (ap (λ (y : ℕ). 2 ^ y) (sym h) ∙ pow-add 2 s k)
    ∙ up_cancel q (2 ^ s) (2 ^ k) (pow_pos s) (pow_pos k) (mul-pos (pow_pos s) (pow_pos k))

above : (q i k l : ℕ) → i + l ≡ k → nearest_up (q * 2 ^ k) (2 ^ l) ≡ q * 2 ^ i
above q i k l h =
    ap (λ (y : ℕ). nearest_up y (2 ^ l))
    (ap (λ (y : ℕ). q * 2 ^ y) (sym h) ∙ ap (λ (y : ℕ). q * y) (pow-add 2 i l) ∙ sym (mul_assoc q (2 ^ i) (2 ^ l)))
    ∙ up_whole (q * 2 ^ i) (2 ^ l) (pow_pos l)

lt-word : (t s : ℕ) → t < 2 ^ 52 → nearest_up (t + 2 ^ 52) (2 ^ s) < 2 ^ 64
lt-word t s d = omega (arith, up_bound (t + 2 ^ 52) (2 ^ s) (pow_pos s))

pub ticks_mid : (e t : ℕ) → 1022 ≤ e → e < 1075 → t < 2 ^ 52
    → whole_ticks (of_fields binary64 false e t) ≡ nearest_up (t + 2 ^ 52) (2 ^ (1075 - e))
ticks_mid zero t a b d = absurd (omega arith)
ticks_mid (suc k) t a b d =
    let s = 1075 - suc k in
    from_low ((2 ^ 52 + t) * 2 ^ k) 1074 (nearest_up (t + 2 ^ 52) (2 ^ s)) _ (normal k t (omega arith))
    (over (2 ^ 52 + t) s k 1074 (omega arith) ∙ ap (λ (y : ℕ). nearest_up y (2 ^ s)) (add_comm (2 ^ 52) t))
    (lt_of_lt_of_le (lt-word t s d) (pow_mono {i = 64} {j = 128} (lit≤ tt)))

pub ticks_whole : (e t : ℕ) → 1075 ≤ e → e ≤ 1150 → t < 2 ^ 52
    → whole_ticks (of_fields binary64 false e t) ≡ (t + 2 ^ 52) * 2 ^ (e - 1075)
ticks_whole zero t a b d = absurd (omega arith)
ticks_whole (suc k) t a b d =
    let i = suc k - 1075 in
    from_low ((2 ^ 52 + t) * 2 ^ k) 1074 ((t + 2 ^ 52) * 2 ^ i) _ (normal k t (omega arith))
    (above (2 ^ 52 + t) i k 1074 (omega arith) ∙ ap (λ (y : ℕ). y * 2 ^ i) (add_comm (2 ^ 52) t))
    (lt_of_lt_of_le (shl_lt 53 i (omega arith)) (pow_mono {i = 53 + i} {j = 128} (omega arith)))

large : (e t : ℕ) → 1151 ≤ e → e < 2047 → whole_ticks (of_fields binary64 false e t) ≡ 2 ^ 128 - 1
large zero t a b = absurd (omega arith)
large (suc k) t a b =
    let i = suc k - 1075 in
    let least : 2 ^ 128 - 1 ≤ 2 ^ 52 * 2 ^ 76 = lit≤ tt in
    let longer : 2 ^ 52 * 2 ^ 76 ≤ 2 ^ 52 * 2 ^ i = mul-le-mul_left (2 ^ 52) (pow_mono {i = 76} {j = i} (omega arith)) in
    let more : 2 ^ 52 * 2 ^ i ≤ (2 ^ 52 + t) * 2 ^ i = mul-le-mul_right (2 ^ i) (omega arith) in
    ticks_value _ _ _ (pow_pos 1074) (normal k t b)
    ∙ ap (λ (y : ℕ). min y (2 ^ 128 - 1)) (above (2 ^ 52 + t) i k 1074 (omega arith))
    ∙ min-eq_right (le_trans least (le_trans longer more))

infinite : whole_ticks (of_fields binary64 false 2047 0) ≡ 2 ^ 128 - 1
unfolding of_fields whole_ticks
infinite = refl

pub ticks_large : (b : ℕ) → b ≤ 0x7ff0_0000_0000_0000 → 1150 < b / 2 ^ 52 → whole_ticks (of_bits binary64 b) ≡ 2 ^ 128 - 1
ticks_large b h k = fields b h ∙ go (ltb (b / 2 ^ 52) 2047) refl
  where
    go : (t : Bool) → ltb (b / 2 ^ 52) 2047 ≡ t → whole_ticks (of_fields binary64 false (b / 2 ^ 52) (b % 2 ^ 52)) ≡ 2 ^ 128 - 1
    go true e = large (b / 2 ^ 52) (b % 2 ^ 52) k (ltb-true _ _ e)
    go false e =
        let x : b / 2 ^ 52 ≡ 2047 = omega (arith, ltb-false (b / 2 ^ 52) 2047 e) in
        let y : b % 2 ^ 52 ≡ 0 = omega (arith, ltb-false (b / 2 ^ 52) 2047 e) in
        rw (x, y) infinite
