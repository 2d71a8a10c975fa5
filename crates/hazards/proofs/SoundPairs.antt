-- Sound hazards, which refusals 5 and 6 let through. Their used pairs: each end above the one before it, ends to 2^43 and rates to 2^48,
-- though document 01's end at 2^40 (document 02, change 9, asks for the room). A scale above 0: from 2^-40 to 2^40.
use mathlib.Core.Bool.{Bool, true, false, not, cond, ◌&&◌, ◌||◌}
use mathlib.Core.List.{List, [], ◌∷◌}
use Prim.Native.Nat.{ℕ, suc, ◌*◌, ◌^◌, ◌≤◌, ◌<◌}
use native.Mathlib.Omega.{arith}
use lib.Dec.{T, ltb, lit≤}
use lib.ListN.{drop}
use lib.Ieee.{Float, lt, le}
use lib.Ieee.Fits.{and_l, and_r}
use lib.Ieee.Positive.{num, den, den_pos}
use Rattle.hazards.specs.Floats.{z, limit, inverse_limit, not_below_zero, in_range}
use Rattle.hazards.specs.Lists.{all}
use Rattle.hazards.specs.Rates.{Piece, first_after, used_pairs, own_rate}
use Rattle.hazards.specs.Checks.{range_fault, pairs_from, zero_pair, ascending, intervals_fault}
use Rattle.hazards.specs.declared.rates.HazardRate.{HazardRate}
use Rattle.hazards.specs.declared.rates.HazardRate.TheVariants.{Zero, Constant, Gompertz, Piecewise, Weibull}
use Rattle.hazards.specs.declared.rates.Intervals.{Intervals}
use Rattle.hazards.proofs.Bounds.{Upto}
use Rattle.hazards.proofs.Upto.{wider, zero_upto}
use Rattle.hazards.proofs.UptoOrder.{le→cross, not-le-lt, not-lt, above_upto}
use Rattle.hazards.proofs.Limits.{limit_upto, inverse_limit_upto, rate_upto, positive_rate_upto}

-- a hazard that 5 and 6 let through
unfoldable pub sound : HazardRate → Intervals → Bool
sound h p = not (range_fault h p) && not (intervals_fault h p)

not_not : (b : Bool) → T (not (not b)) → T b
not_not true t = tt
not_not false t = elim t [ ]

neither : (a b : Bool) → T (not (a || not b)) → T b
neither true b t = elim t [ ]
neither false b t = not_not b t

first_fails : (a b : Bool) → T (not (not a || b)) → T a
first_fails true b t = tt
first_fails false b t = elim t [ ]

second_fails : (a b : Bool) → T (not (not a || b)) → T (not b)
second_fails true b t = t
second_fails false b t = elim t [ ]

-- not both, but the one
not_other : (a b : Bool) → T (not (a && b)) → T a → T (not b)
not_other true b n t = n
not_other false b n t = elim t [ ]

-- one piece after another, from an end on
pub data Following : Float → List Piece → Type 0 where
  none : {before : Float} → Following before []
  next : {before : Float} {p : Piece} {ps : List Piece}
      → T (lt before p.end) → Upto (2 ^ 43) p.end → Upto (2 ^ 48) (not_below_zero p.rate) → Following p.end ps
      → Following before (p ∷ ps)

pub following : {a : ℕ} (before : Float) (ps : List Piece) → Upto a before → T (all (λ q. in_range q.rate) ps) → T (ascending before ps)
    → Following before ps
unfolding all ascending
following before [] u r e = none
following before (p ∷ ps) u r e =
    let x = lt before p.end in
    let y = le p.end limit in
    let w = ascending p.end ps in
    let k = in_range p.rate in
    let l = all (λ q. in_range q.rate) ps in
    let f = and_r x (y && w) e in
    let end = above_upto p.end u (and_l x (y && w) e) (and_l y w f) limit_upto in
    next (and_l x (y && w) e) (wider (2 ^ 43) (lit≤ tt) end) (wider (2 ^ 48) (lit≤ tt) (rate_upto p.rate (and_l k l r)))
    (following p.end ps end (and_r k l r) (and_r y w f))

in-range : (h : HazardRate) (p : Intervals) → T (not (range_fault h p)) → T (in_range (own_rate h))
unfolding range_fault own_rate in_range le
in-range Zero p t = tt
in-range (Constant rate) p t = not_not (in_range rate) t
in-range (Gompertz eta) p t = not_not (in_range eta) t
in-range (Piecewise trailing) p t =
    let rates = all (λ q. in_range q.rate) (used_pairs p) in
    and_l (in_range trailing) rates (not_not (in_range trailing && rates) t)
in-range (Weibull scale) p t = first_fails (in_range scale) (lt z scale && lt scale inverse_limit) t

pub own_rate_sound : (h : HazardRate) (p : Intervals) → T (sound h p) → T (in_range (own_rate h))
unfolding sound
own_rate_sound h p s = in-range h p (and_l (not (range_fault h p)) (not (intervals_fault h p)) s)

pub pairs_sound : (trailing : Float) (p : Intervals) → T (sound (Piecewise trailing) p) → Following z (used_pairs p)
unfolding sound range_fault intervals_fault
pairs_sound trailing p s =
    let rates = all (λ q. in_range q.rate) (used_pairs p) in
    let zeros = all zero_pair (pairs_from p p.count) in
    let ends = ascending z (used_pairs p) in
    let range = not (in_range trailing && rates) in
    let intervals = ltb 8 p.count || not (zeros && ends) in
    following z (used_pairs p) (zero_upto 0)
    (and_r (in_range trailing) rates (not_not (in_range trailing && rates) (and_l (not range) (not intervals) s)))
    (and_r zeros ends (neither (ltb 8 p.count) (zeros && ends) (and_r (not range) (not intervals) s)))

-- a scale above 0 that 5 lets through: at most 2^40, and at least 2^-40
pub record SoundScale (scale : Float) : Type 0 where
  pub bounded : Upto (2 ^ 40) scale
  pub counts : 0 < num scale
  pub smallest : den scale ≤ 2 ^ 40 * num scale

pub scale_sound : (scale : Float) (p : Intervals) → T (sound (Weibull scale) p) → T (not (le scale z)) → SoundScale scale
unfolding sound range_fault
scale_sound scale p s n =
    let tiny = lt z scale && lt scale inverse_limit in
    let range = and_l (not (not (in_range scale) || tiny)) (not (intervals_fault (Weibull scale) p)) s in
    let u = positive_rate_upto scale n (first_fails (in_range scale) tiny range) in
    let above = not-le-lt (zero_upto 0) u n in
    let least = not-lt u inverse_limit_upto (not_other (lt z scale) (lt scale inverse_limit) (second_fails (in_range scale) tiny range) above) in
    let low : den scale ≤ 2 ^ 40 * num scale = omega (arith, le→cross inverse_limit_upto u least) in
    record { bounded = u; counts = omega (arith, low, den_pos scale); smallest = low }

-- the pieces from the first after t on follow t
pub after_following : {b : ℕ} {before t : Float} {ps : List Piece} → Upto b t → Following before ps
    → Following t (drop (first_after t ps) ps)
unfolding first_after
after_following v none = none
after_following {before} {t} v (next {p} {ps} l m r f) =
    go (le p.end t) (λ n. next (not-le-lt v m n) m r f) (after_following v f)
  where
    go : (b : Bool) → (T (not b) → Following t (p ∷ ps)) → Following t (drop (first_after t ps) ps)
        → Following t (drop (cond b (suc (first_after t ps)) 0) (p ∷ ps))
    go true x y = y
    go false x y = x tt
