-- Laws of nearest_up, and of a number of 53 binary digits moved up into two words.
use mathlib.Core.Path.{◌≡◌, sym, ◌∙◌, ap, subst}
use Prim.Native.Nat.{ℕ, zero, suc, ◌+◌, ◌-◌, ◌*◌, ◌/◌, ◌%◌, ◌^◌, ◌<◌, ◌≤◌}
use native.Mathlib.Nat.{div-eq_of_lt, div-eq_of_lt-le, div-lt_iff_lt-mul, lt_of_lt_of_le, mul-lt-mul_of_pos_right, mod-lt}
use native.Mathlib.Nat.{mod-add-div, mul_left_comm}
use lib.Pow.{pow-add, pow_pos, pow_mono, shl_lt}
use native.Mathlib.Omega.{arith}
use lib.Ieee.Nearest.{div_same}
use Rattle.clocks.specs.Ticks.{nearest_up}
use Rattle.clocks.specs.declared.ticks.Ticks.{Ticks}

cross : (M D a c : ℕ) → M * c ≡ a * D → (2 * M + D) * (2 * c) ≡ (2 * a + c) * (2 * D)
cross M D a c h = omega arith

doubled : (c : ℕ) → 0 < c → 0 < 2 * c
doubled c h = omega arith

-- equal fractions round alike
pub up_same : (M D a c : ℕ) → 0 < D → 0 < c → M * c ≡ a * D → nearest_up M D ≡ nearest_up a c
up_same M D a c x y h = div_same (2 * M + D) (2 * D) (2 * a + c) (2 * c) (doubled D x) (doubled c y) (cross M D a c h)

pub up_cancel : (q d p : ℕ) → 0 < d → 0 < p → 0 < d * p → nearest_up (q * p) (d * p) ≡ nearest_up q d
up_cancel q d p x y z = up_same (q * p) (d * p) q d z x (omega arith)

-- below a half
pub up_zero : (a c : ℕ) → 2 * a < c → nearest_up a c ≡ 0
up_zero a c h = div-eq_of_lt (omega arith)

-- a whole number
pub up_whole : (n c : ℕ) → 0 < c → nearest_up (n * c) c ≡ n
up_whole n c h = div-eq_of_lt-le {k = n} (2 * c) {m = 2 * (n * c) + c} (omega arith) (omega arith)

pub up_bound : (q d : ℕ) → 0 < d → nearest_up q d < q + 2
up_bound q d h = (div-lt_iff_lt-mul (doubled d h)).1 (bound q d h)
  where
    bound : (q d : ℕ) → 0 < d → 2 * q + d < (q + 2) * (2 * d)
    bound q zero h = omega arith
    bound q (suc d) h = omega arith

-- ---- a number of 53 binary digits, moved up
pub small_shift : (q e : ℕ) → q < 2 ^ 53 → e ≤ 11 → q * 2 ^ e < 2 ^ 64
small_shift q e h k = lt_of_lt_of_le (shl_lt 53 e h) (pow_mono {i = 53 + e} {j = 64} (omega arith))

-- 2 ^ (64 - e) * 2 ^ e
whole_word : (e : ℕ) → e ≤ 64 → 2 ^ (64 - e) * 2 ^ e ≡ 2 ^ 64
whole_word e h =
    let back : 64 - e + e ≡ 64 = omega arith in
    sym (pow-add 2 (64 - e) e) ∙ ap (λ (n : ℕ). 2 ^ n) back

pub split_fits : (q e : ℕ) → e ≤ 64 → q % 2 ^ (64 - e) * 2 ^ e < 2 ^ 64
split_fits q e h =
    subst (λ (n : ℕ). q % 2 ^ (64 - e) * 2 ^ e < n) (whole_word e h)
    (mul-lt-mul_of_pos_right (mod-lt q (pow_pos (64 - e))) (pow_pos e))

joined : (q r p w : ℕ) → r * p ≡ w → q % r + r * (q / r) ≡ q → q % r * p + w * (q / r) ≡ q * p
joined q r p w h k =
    ap (λ (n : ℕ). q % r * p + n * (q / r)) (sym h) ∙ spread (q % r) r p (q / r) ∙ ap (λ (n : ℕ). n * p) k
  where
    spread : (a r p d : ℕ) → a * p + r * p * d ≡ (a + r * d) * p
    spread a r p d = omega arith

pub split-sum : (q e : ℕ) → e ≤ 64 → q % 2 ^ (64 - e) * 2 ^ e + 2 ^ 64 * (q / 2 ^ (64 - e)) ≡ q * 2 ^ e
split-sum q e h = joined q (2 ^ (64 - e)) (2 ^ e) (2 ^ 64) (whole_word e h) (mod-add-div q (2 ^ (64 - e)))

pub high_shift : (q e : ℕ) → 64 ≤ e → 2 ^ 64 * (q * 2 ^ (e - 64)) ≡ q * 2 ^ e
high_shift q e h =
    mul_left_comm (2 ^ 64) q (2 ^ (e - 64))
    ∙ ap (λ (n : ℕ). q * n) (sym (pow-add 2 64 (e - 64)) ∙ ap (λ (n : ℕ). 2 ^ n) (omega arith))

-- ---- a number held as two words
low_word : (n low high : ℕ) → low < 2 ^ 64 → low + 2 ^ 64 * high ≡ n → n % 2 ^ 64 ≡ low
low_word n low high h e = omega arith

high_word : (n low high : ℕ) → low < 2 ^ 64 → low + 2 ^ 64 * high ≡ n → n / 2 ^ 64 ≡ high
high_word n low high h e = omega arith

pub two_words : (n : ℕ) (r : Ticks) → r.low < 2 ^ 64 → r.low + 2 ^ 64 * r.high ≡ n → r ≡ record { low = n % 2 ^ 64; high = n / 2 ^ 64 }
two_words n r h e = simp (low_word n r.low r.high h e, high_word n r.low r.high h e)
