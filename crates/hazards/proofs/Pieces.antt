-- Pieces by index, for any curve: one below the count n and none from n on, and those that are left when the first k are dropped.
-- A piecewise hazard's used pairs are such pieces.
use mathlib.Core.Path.{◌≡◌, refl, sym, ap, ◌∙◌}
use mathlib.Core.Bool.{Bool, ◌&&◌}
use mathlib.Core.List.{List, [], ◌∷◌, map}
use Prim.Native.Nat.{ℕ, zero, suc, ◌+◌, ◌-◌, ◌<◌, ◌≤◌, min}
use native.Mathlib.Nat.{sub-zero, zero-sub, suc-sub-suc, add-zero, zero-add}
use native.Mathlib.Numerals.{add-one}
use native.Mathlib.Omega.{arith}
use lib.ListN.{length, get_or, take, drop}
use lib.Seq.{slice}
use lib.Ieee.{Float, nan}
use Rattle.std.specs.List.{list_all}
use Rattle.hazards.specs.Lists.{all}
use Rattle.hazards.specs.Rates.{Piece, pieces_by, first_after, pair_at, used_pairs}
use Rattle.hazards.specs.declared.rates.Intervals.{Intervals}
use Rattle.hazards.proofs.ListLaws.{slice_next, slice_none}

pub one_left : (n i : ℕ) → i < n → n - i ≡ suc (n - (i + 1))
one_left n i h = omega arith

pub none_left : (n i : ℕ) → n ≤ i → n - i ≡ 0
none_left n i h = omega arith

module _ (f : ℕ → Piece) where
  pub pieces_next : (n i : ℕ) → i < n → pieces_by f i (n - i) ≡ f i ∷ pieces_by f (i + 1) (n - (i + 1))
  unfolding pieces_by
  pieces_next n i h = rw (one_left n i h, add-one)

  pub pieces_end : (n i : ℕ) → n ≤ i → pieces_by f i (n - i) ≡ []
  unfolding pieces_by
  pieces_end n i h = rw (none_left n i h)

  pub pieces_dropped : (i n k : ℕ) → drop k (pieces_by f i n) ≡ pieces_by f (i + k) (n - k)
  unfolding pieces_by
  pieces_dropped i n zero = rw (add-zero i, sub-zero n)
  pieces_dropped i zero (suc k) = rw (zero-sub (suc k))
  pieces_dropped i (suc n) (suc k) =
      let e : suc i + k ≡ i + suc k = omega arith in
      pieces_dropped (suc i) n k ∙ rw (e, suc-sub-suc n k)

-- the rates of the pairs at n places from i on are those of the array
rates_of : (p : Intervals) (i n : ℕ) → i + n ≤ length p.rates → map (λ q. q.rate) (pieces_by (pair_at p) i n) ≡ slice i (i + n) p.rates
unfolding pieces_by
rates_of p i zero h = sym (slice_none p.rates (i + zero) i (omega arith))
rates_of p i (suc n) h =
    let e : i + suc n ≡ suc i + n = omega arith in
    rw (slice_next p.rates (i + suc n) i nan (omega arith) h, add-one, e)
    (ap (λ (r : List Float). get_or p.rates i nan ∷ r) (rates_of p (suc i) n (omega (arith, h))))

all-rates : (test : Float → Bool) (ps : List Piece) → list_all test (map (λ q. q.rate) ps) ≡ all (λ q. test q.rate) ps
unfolding all
all-rates test [] = refl
all-rates test (q ∷ qs) = ap (λ (b : Bool). test q.rate && b) (all-rates test qs)

module _ (p : Intervals) {n : ℕ} (counted : n ≡ min p.count 8) where
  pub used_start : pieces_by (pair_at p) 0 (n - 0) ≡ used_pairs p
  unfolding used_pairs
  used_start = rw (sub-zero n, counted)

  -- the library's test of the used rates
  pub all-used-rates : (test : Float → Bool) → n ≤ length p.rates → list_all test (take n p.rates) ≡ all (λ q. test q.rate) (used_pairs p)
  unfolding used_pairs
  all-used-rates test h =
      rw (← counted)
      (ap (list_all test) (sym (rw (zero-add n) at (rates_of p 0 n (rw (zero-add n) h)))) ∙ all-rates test (pieces_by (pair_at p) 0 n))

  -- from the first after t on
  pub used_after : (t : Float) {i : ℕ} → i ≡ first_after t (used_pairs p)
      → pieces_by (pair_at p) i (n - i) ≡ drop (first_after t (used_pairs p)) (used_pairs p)
  unfolding used_pairs
  used_after t e = rw (e, counted, pieces_dropped (pair_at p) 0 (min p.count 8) (first_after t (used_pairs p)), zero-add)
