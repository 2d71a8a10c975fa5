-- The order of values that are `Upto` some bound is the order of their fractions.
use mathlib.Core.Path.{◌≡◌, refl, ap, ◌∙◌}
use mathlib.Core.Logic.{inl, inr}
use mathlib.Core.Bool.{Bool, true, false, not, ◌&&◌, ◌||◌, true≢false}
use Prim.Native.Nat.{ℕ, suc, ◌*◌, ◌≤◌, ◌<◌, zero-le}
use native.Mathlib.Nat.{le_refl, le_trans, lt_of_not-le, eq-or-lt_of_le, le_of_eq, le_of_lt, zero-mul, mul_right_comm, le_of_suc-le-suc}
use native.Mathlib.Nat.{mul-le-mul_right, le_of_mul-le-mul_right}
use native.Mathlib.Omega.{arith}
use lib.IntN.{ℤ}
use lib.Dec.{T, T_not, ltb, eqb, le→leb, ltb→lt, lt→ltb, eqb→eq}
use lib.Ieee.{Float, nan, inf, fin, up, down, lt, le}
use lib.Ieee.Fits.{down_pos, and_i, and_l, eq→eqb}
use lib.Ieee.Positive.{num, den, den_pos, through}
use Rattle.hazards.specs.Floats.{z}
use Rattle.hazards.proofs.Bounds.{Upto}
use Rattle.hazards.proofs.Signs.{Signed}
use Rattle.hazards.proofs.Upto.{for_fin, for_fins, num_upto, zero_upto}

pub or_l : (a b : Bool) → T a → T (a || b)
or_l true b t = tt
or_l false b t = absurd t

or_r : (a b : Bool) → T b → T (a || b)
or_r true b t = tt
or_r false b t = t

-- `le` of two clear signs
or-le : (a b : ℕ) → a ≤ b → T (ltb a b || (eqb a b && true))
or-le a b h =
    elim (eq-or-lt_of_le h) [
      | inl p ↦ or_r (ltb a b) _ (and_i (eqb a b) true (eq→eqb p) tt)
      | inr q ↦ or_l (ltb a b) _ (lt→ltb a b q)
    ]

le-or : (a b : ℕ) → T (ltb a b || (eqb a b && true)) → a ≤ b
le-or a b t = go (ltb a b) (ltb→lt a b) t
  where
    go : (x : Bool) → (T x → a < b) → T (x || (eqb a b && true)) → a ≤ b
    go true h t = le_of_lt (h tt)
    go false h t = le_of_eq (eqb→eq a b (and_l (eqb a b) true t))

-- ---- to the fractions and back
pub le→cross : {a b : ℕ} {x y : Float} → Upto a x → Upto b y → T (le x y) → num x * den y ≤ num y * den x
le→cross u v =
    for_fins (λ (x y : Float). T (le x y) → num x * den y ≤ num y * den x)
    (λ (m : ℕ) (e : ℤ) (n : ℕ) (d : ℤ). λ (h : T (le (fin false m e) (fin false n d))).
    le-or (m * up e * down d) (n * up d * down e) (unfold le in h)) u v

pub cross→le : {a b : ℕ} {x y : Float} → Upto a x → Upto b y → num x * den y ≤ num y * den x → T (le x y)
cross→le u v =
    for_fins (λ (x y : Float). num x * den y ≤ num y * den x → T (le x y))
    (λ (m : ℕ) (e : ℤ) (n : ℕ) (d : ℤ). λ (h : m * up e * down d ≤ n * up d * down e).
    unfold le in or-le (m * up e * down d) (n * up d * down e) h) u v

pub cross→lt : {a b : ℕ} {x y : Float} → Upto a x → Upto b y → num x * den y < num y * den x → T (lt x y)
cross→lt u v =
    for_fins (λ (x y : Float). num x * den y < num y * den x → T (lt x y))
    (λ (m : ℕ) (e : ℤ) (n : ℕ) (d : ℤ). λ (h : m * up e * down d < n * up d * down e).
    unfold lt in lt→ltb (m * up e * down d) (n * up d * down e) h) u v

-- ---- the order is total, and carries over
pub lt-le : (x y : Float) → T (lt x y) → T (le x y)
lt-le x y h = unfold le in or_l (lt x y) _ h

pub not-le-lt : {a b : ℕ} {x y : Float} → Upto a x → Upto b y → T (not (le y x)) → T (lt x y)
not-le-lt {x} {y} u v h = cross→lt u v (lt_of_not-le (λ (k : num y * den x ≤ num x * den y). T_not (le y x) h (cross→le v u k)))

pub not-le : {a b : ℕ} {x y : Float} → Upto a x → Upto b y → T (not (le x y)) → T (le y x)
not-le {x} {y} u v h = lt-le y x (not-le-lt v u h)

pub not-lt : {a b : ℕ} {x y : Float} → Upto a x → Upto b y → T (not (lt x y)) → T (le y x)
not-lt {x} {y} u v h =
    cross→le v u
    (le_of_suc-le-suc (lt_of_not-le (λ (k : suc (num x * den y) ≤ num y * den x). T_not (lt x y) h (cross→lt u v k))))

pub le-refl-upto : {a : ℕ} {x : Float} → Upto a x → T (le x x)
le-refl-upto {x} u = cross→le u u (le_refl (num x * den x))

pub le-trans-upto : {a b c : ℕ} {x y w : Float} → Upto a x → Upto b y → Upto c w → T (le x y) → T (le y w) → T (le x w)
le-trans-upto {x} {y} {w} u v t h k =
    cross→le u t (through (num x) (num y) (num w) (den x) (den y) (den w) (den_pos y) (le→cross u v h) (le→cross v t k))

pub zero-le-upto : {a : ℕ} {x : Float} → Upto a x → T (le z x)
zero-le-upto {a} {x} u = cross→le (zero_upto 0) u (le_trans (le_of_eq (zero-mul (den x))) zero-le)

-- a zero is at most each of them
pub nothing-le : {b : ℕ} {x y : Float} → Upto 0 x → Upto b y → T (le x y)
nothing-le {b} {x} {y} u v = cross→le u v (none (num x) (den x) (den y) (num_upto u))
  where
    none : (A c d : ℕ) → A ≤ 0 * c → A * d ≤ num y * c
    none A c d h =
        let e : A ≡ 0 = omega (arith, zero-mul c) in
        le_trans (le_of_eq (ap (λ (k : ℕ). k * d) e ∙ zero-mul d)) zero-le

-- ---- bounds from the order

-- at most a value that is at most b
pub upto_le : {b : ℕ} {y : Float} (x : Float) → Signed false x → T (le x y) → Upto b y → Upto b x
upto_le {b} {y} x c h u =
    for_fin (λ (w : Float). T (le x w) → num w ≤ b * den w → Upto b x) (go x c) u h (num_upto u)
  where
    go : (x : Float) → Signed false x → (n : ℕ) (d : ℤ) → T (le x (fin false n d)) → n * up d ≤ b * down d → Upto b x
    go nan c n d h k = absurd c
    go (inf true) c n d h k = absurd (true≢false c)
    go (inf false) c n d h k = absurd (unfold le in h)
    go (fin true m e) c n d h k = absurd (true≢false c)
    go (fin false m e) c n d h k =
        let p : m * up e * down d ≤ n * up d * down e = le-or (m * up e * down d) (n * up d * down e) (unfold le in h) in
        let q = le_trans p (le_trans (mul-le-mul_right (down e) k) (le_of_eq (mul_right_comm b (down d) (down e)))) in
        record { holds = le→leb (m * up e) (b * down e) (le_of_mul-le-mul_right q (down_pos d)) }

-- above a value whose sign is clear, and at most w
pub above_upto : {a b : ℕ} {x w : Float} (y : Float) → Upto a x → T (lt x y) → T (le y w) → Upto b w → Upto b y
above_upto {x} y u h k v = upto_le y (for_fin (λ (q : Float). T (lt q y) → Signed false y) (go y) u h) k v
  where
    go : (y : Float) → (m : ℕ) (e : ℤ) → T (lt (fin false m e) y) → Signed false y
    go nan m e h = absurd (unfold lt in h)
    go (inf true) m e h = absurd (unfold lt in h)
    go (inf false) m e h = refl
    go (fin true n d) m e h = absurd (unfold lt in h)
    go (fin false n d) m e h = refl
