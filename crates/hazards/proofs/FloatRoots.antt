-- The root of a float by its bit pattern: of the infinity, of a finite float above 0, of any other; and that of every finite one above 0
-- one f64 alone is the nearest.
use mathlib.Core.Path.{◌≡◌, refl, sym, ap, ◌∙◌, subst}
use mathlib.Core.Logic.{◌⊎◌, inl, inr}
use mathlib.Core.Bool.{Bool, true, false, not}
use Prim.Native.Nat.{ℕ, ◌<◌}
use native.Mathlib.Omega.{arith}
use lib.Dec.{T}
use lib.Ieee.{Float, inf, binary64, fits, of_bits, to_bits, nan_bits, lt}
use lib.Ieee.Bits.{of_bits-to_bits, of_bits-fits, to_bits-of_bits, nan_bits_is}
use lib.Ieee.Positive.{positive}
use denote.Floats.{passes}
use Rattle.hazards.specs.Floats.{z}
use Rattle.hazards.specs.Roots.{NearestPattern, NearestRoot, root_pattern, nearest_root, OneNearest}
use Rattle.hazards.specs.RootsInternals.{infinity_pattern}
use Rattle.hazards.proofs.Patterns.{number_pattern}
use Rattle.hazards.proofs.AboveZero.{infinite_or_positive, positive_finite, infinity_not_below, finite_positive}
use Rattle.hazards.proofs.PatternOrder.{pattern_finite, pattern_above_zero}
use Rattle.hazards.proofs.NearestRoots.{nearest_is, root_nearest}

-- ---- the infinity and its pattern

infinity-pattern : to_bits binary64 (inf false) ≡ infinity_pattern
unfolding to_bits
infinity-pattern = refl

pattern_infinity : of_bits binary64 infinity_pattern ≡ inf false
unfolding of_bits
pattern_infinity = refl

pub finite_number : (c : ℕ) → c < infinity_pattern → T (not (nan_bits binary64 c))
finite_number c h = number_pattern c (omega arith)

pattern_back : (c : ℕ) → c < infinity_pattern → to_bits binary64 (of_bits binary64 c) ≡ c
pattern_back c h = to_bits-of_bits binary64 c (omega arith) (subst (λ (t : Bool). T (not t)) (nan_bits_is binary64 c) (finite_number c h))

-- ---- the three cases

module _ (x : Float) where
  pub root_of_other : lt z x ≡ false → z ≡ nearest_root x
  unfolding nearest_root
  root_of_other l = rw l

  module _ (l : lt z x ≡ true) where
    pub root_of_infinity : T (fits binary64 x) → to_bits binary64 x ≡ infinity_pattern → x ≡ nearest_root x
    unfolding nearest_root
    root_of_infinity f e =
        let i : x ≡ inf false = sym (of_bits-to_bits binary64 x f) ∙ ap (of_bits binary64) e ∙ pattern_infinity in
        rw (l, ap (λ (y : Float). lt y (inf false)) i ∙ infinity_not_below)

    pub other_positive : (to_bits binary64 x ≡ infinity_pattern → ⊥) → T (positive x)
    other_positive n = go (infinite_or_positive x (passes _ l))
      where
        go : (x ≡ inf false) ⊎ T (positive x) → T (positive x)
        go (inl e) = absurd (n (ap (to_bits binary64) e ∙ infinity-pattern))
        go (inr p) = p

    pub root_of_positive : T (positive x) → nearest_root x ≡ of_bits binary64 (root_pattern (to_bits binary64 x))
    unfolding nearest_root
    root_of_positive p = rw (l, positive_finite x p)

-- ---- one f64 is the nearest, and that is this one

pub one_nearest : OneNearest
one_nearest x s f l k =
    let p = finite_positive x (passes _ l) (passes _ k) in
    let b = to_bits binary64 x in
    let h = pattern_finite x f p in
    let r = root_nearest b h (pattern_above_zero x f p) in
    let e = root_of_positive x l p in (
      λ (v : NearestRoot x s).
          sym (of_bits-to_bits binary64 s v.is_f64) ∙ ap (of_bits binary64) (nearest_is b h (to_bits binary64 s) v.nearest) ∙ sym e,
      λ (q : s ≡ nearest_root x).
          subst (NearestRoot x) (sym (q ∙ e))
          (record {
            is_f64 = of_bits-fits binary64 (root_pattern b);
            nearest = subst (λ (c : ℕ). NearestPattern b c) (sym (pattern_back (root_pattern b) r.1)) r.0;
          }),
    )
