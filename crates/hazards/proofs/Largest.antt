-- A finite value that binary64 holds is at most its largest one, so a sum with a finite wait stays finite where the bounds do.
use mathlib.Core.Path.{◌≡◌, refl, sym, ap, ◌∙◌, subst}
use mathlib.Core.Bool.{Bool, true, false, not, ◌&&◌}
use Prim.Native.Nat.{ℕ, zero, suc, ◌+◌, ◌-◌, ◌*◌, ◌%◌, ◌^◌, ◌≤◌, ◌<◌, zero-le}
use native.Mathlib.Nat.{le_refl, le_trans, le_of_eq, le_of_lt, lt_of_lt_of_le, mul-one, zero-mul, mul_assoc, mul-le-mul}
use native.Mathlib.Nat.{mul-le-mul_right, lt_of_mul-lt-mul_right}
use native.Mathlib.Omega.{arith}
use lib.IntN.{ℤ, pos, negsuc}
use lib.Dec.{T, leb, ltb, eqb, leb→le, le→leb, ltb→lt, nleb→lt, eqb→eq, lit≤}
use lib.Pow.{pow-add, pow_pos, pow_mono, le_ones}
use lib.Ieee.{Float, nan, inf, fin, binary64, up, down, add, sub, lt, le, fits}
use lib.Ieee.Fits.{and_l, and_r}
use Rattle.hazards.specs.Floats.{z, is_finite_wait}
use Rattle.hazards.proofs.Bounds.{Upto, largest}
use Rattle.hazards.proofs.Upto.{lands}
use Rattle.hazards.proofs.UptoOrder.{nothing-le}
use Rattle.hazards.proofs.UptoOperations.{add-upto, sub-upto}

-- ---- m of 53 digits times 2 ^ k, below 2 ^ 1024: by whether k is past the largest value's 971
near : (m k : ℕ) → m < 2 ^ 53 → k ≤ 971 → m * 2 ^ k ≤ largest
near m k a h = le_trans (mul-le-mul (le_ones 53 a) (pow_mono {i = k} {j = 971} h)) (lit≤ tt)

back : (k : ℕ) → 972 ≤ k → k - 972 + 972 ≡ k
back k h = omega arith

split : (m k : ℕ) → 972 ≤ k → m * 2 ^ k ≡ m * 2 ^ (k - 972) * 2 ^ 972
split m k h =
    ap (λ (x : ℕ). m * 2 ^ x) (sym (back k h))
    ∙ ap (λ (x : ℕ). m * x) (pow-add 2 (k - 972) 972)
    ∙ sym (mul_assoc m (2 ^ (k - 972)) (2 ^ 972))

far : (m k : ℕ) → m * 2 ^ k < 2 ^ 1024 → 972 ≤ k → m * 2 ^ k ≤ largest
far m k a h =
    let e = split m k h in
    let q : m * 2 ^ (k - 972) < 2 ^ 52 =
    lt_of_mul-lt-mul_right (2 ^ 972) (lt_of_lt_of_le (subst (λ (x : ℕ). x < 2 ^ 1024) e a) (lit≤ tt)) in
    le_trans (le_of_eq e) (le_trans (mul-le-mul_right (2 ^ 972) (le_ones 52 q)) (lit≤ tt))

within : (m : ℕ) (e : ℤ) → m < 2 ^ 53 → m * up e < 2 ^ 1024 * down e → m * up e ≤ largest * down e
within m (pos k) a b = le_trans (go (leb k 971) (leb→le k 971) (nleb→lt k 971)) (le_of_eq (sym (mul-one largest)))
  where
    go : (t : Bool) → (T t → k ≤ 971) → (T (not t) → 971 < k) → m * 2 ^ k ≤ largest
    go true h n = near m k a (h tt)
    go false h n = far m k (subst (λ (x : ℕ). m * 2 ^ k < x) (mul-one (2 ^ 1024)) b) (n tt)
within m (negsuc k) a b =
    le_trans (le_of_eq (mul-one m))
    (le_trans (le_of_lt a)
    (le_trans (lit≤ tt) (le_trans (le_of_eq (sym (mul-one largest))) (mul-le-mul (le_refl largest) (pow_pos (suc k))))))

held : (m : ℕ) (e : ℤ) → T (fits binary64 (fin false m e)) → m * up e ≤ largest * down e
unfolding fits
held zero e f = le_trans (le_of_eq (zero-mul (up e))) zero-le
held (suc m) e f =
    let t = eqb (suc m % 2) 1 in
    let u = ltb (suc m) (2 ^ 53) in
    let v = leb (down e) (2 ^ 1074) in
    let w = ltb (suc m * up e) (2 ^ 1024 * down e) in
    within (suc m) e (ltb→lt (suc m) (2 ^ 53) (and_r t u (and_l (t && u) v (and_l (t && u && v) w f))))
    (ltb→lt (suc m * up e) (2 ^ 1024 * down e) (and_r (t && u && v) w f))

pub held_upto : (m : ℕ) (e : ℤ) → T (fits binary64 (fin false m e)) → Upto largest (fin false m e)
held_upto m e f = record { holds = le→leb (m * up e) (largest * down e) (held m e f) }

-- ---- x + y for a finite wait y, which may be -0.0
minus_zero : (n : ℕ) (d : ℤ) → T (le z (fin true n d)) → n * up d ≡ 0
unfolding le
minus_zero n d h =
    let b = 0 * 1 * down d in
    let p : b ≡ n * up d * 1 = eqb→eq b (n * up d * 1) (and_l (eqb b (n * up d * 1)) (eqb b 0) h) in
    let q : b ≡ 0 = eqb→eq b 0 (and_r (eqb b (n * up d * 1)) (eqb b 0) h) in
    sym (mul-one (n * up d)) ∙ sym p ∙ q

plus_negative : (x : Float) (n : ℕ) (d : ℤ) → add binary64 x (fin true n d) ≡ sub binary64 x (fin false n d)
unfolding sub
plus_negative x n d = refl

tested_later : {a : ℕ} {x : Float} (c : ℕ) (y : Float) → Upto a x → T (fits binary64 y) → T (le z y) → T (lt y (inf false))
    → T (lands (a + largest) c) → T (lands a c) → Upto c (add binary64 x y)
tested_later c nan u f o i l k = absurd (unfold le in o)
tested_later c (inf true) u f o i l k = absurd (unfold le in o)
tested_later c (inf false) u f o i l k = absurd (unfold lt in i)
tested_later c (fin false n d) u f o i l k = add-upto c u (held_upto n d f) l
tested_later {a} {x} c (fin true n d) u f o i l k =
    let v : Upto 0 (fin false n d) = record { holds = le→leb (n * up d) (0 * down d) (le_trans (le_of_eq (minus_zero n d o)) zero-le) } in
    rw (plus_negative x n d) (sub-upto c u v (nothing-le v u) k)

pub later_upto : {a : ℕ} {x : Float} (c : ℕ) (y : Float) → Upto a x → T (fits binary64 y) → T (is_finite_wait y)
    → T (lands (a + largest) c) → T (lands a c) → Upto c (add binary64 x y)
unfolding is_finite_wait
later_upto c y u f h l k = tested_later c y u f (and_l (le z y) (lt y (inf false)) h) (and_r (le z y) (lt y (inf false)) h) l k
