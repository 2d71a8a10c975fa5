-- The piece that an inversion gives is the one whose rate it uses, no other is, and 0 where no piece is used.
use mathlib.Core.Path.{◌≡◌, refl, sym, ap, ◌∙◌}
use mathlib.Core.Bool.{Bool, true, false, cond, ◌&&◌, true≢false}
use mathlib.Core.List.{List, [], ◌∷◌}
use Prim.Native.Nat.{ℕ, zero, suc, ◌+◌, ◌-◌, ◌≤◌, ◌<◌}
use native.Mathlib.Nat.{add-zero, zero-add}
use native.Mathlib.Omega.{arith}
use borrow.Author.Tests.{ltb-true, ltb-false}
use lib.Dec.{ltb}
use lib.ListN.{length, drop, length-drop}
use lib.Ieee.{Float, binary64, add, sub, mul, div, lt, le}
use Rattle.std.specs.Prelude.{Option, None, Some}
use Rattle.hazards.specs.Floats.{z, not_below_zero, is_finite_wait}
use Rattle.hazards.specs.Rates.{Piece, first_after, used_pairs, uses_pairs, ends_in, wait_through, wait_from, constant_wait, weibull_wait}
use Rattle.hazards.specs.Rates.{wait_of_rate, invert_cumulative_hazard, some_wait}
use Rattle.hazards.specs.PieceUsed.{rate_of, end_of, capacity_from, left_at, holds_at, EndsIn, PieceUsed, OnePiece, PieceZero}
use Rattle.hazards.specs.declared.rates.HazardRate.{HazardRate}
use Rattle.hazards.specs.declared.rates.HazardRate.TheVariants.{Zero, Constant, Gompertz, Piecewise, Weibull}
use Rattle.hazards.specs.declared.rates.Intervals.{Intervals}
use Rattle.hazards.specs.declared.rates.Wait.{Wait}
use Rattle.hazards.proofs.Cases.{by_test, both_true}

-- ---- what an inversion found, taken apart

abbrev time_in : Option Wait → Float
time_in (Some wait) = wait.time
time_in None = z

abbrev piece_in : Option Wait → ℕ
piece_in (Some wait) = wait.piece
piece_in None = 0

abbrev is_after : Option Wait → Bool
is_after (Some wait) = true
is_after None = false

-- ---- from a place of the curve on: the pieces qs, of which the first has index i and begins at cur

record EndsFrom (i : ℕ) (qs : List Piece) (trailing start cur w wait : Float) (piece : ℕ) : Type 0 where
  place : ℕ
  at : Float
  left : Float
  number : piece ≡ i + place
  within : place ≤ length qs
  positive : lt z (rate_of qs trailing place) ≡ true
  first : place ≡ 0 → at ≡ cur
  later : (j : ℕ) → place ≡ suc j → at ≡ end_of qs j
  left_of : left ≡ left_at qs cur w place
  holds : place < length qs → holds_at qs cur w place ≡ true
  passed : (j : ℕ) → j < place → holds_at qs cur w j ≡ false
  waits : wait ≡ sub binary64 (add binary64 at (div binary64 left (rate_of qs trailing place))) start

not-le-zero : (x : Float) → le (not_below_zero x) z ≡ false → lt z (not_below_zero x) ≡ true
unfolding not_below_zero le lt
not-le-zero x h = by_test (lt z x) (λ (e : lt z x ≡ true). rw e e) (λ (e : lt z x ≡ false). absurd (true≢false (rw e at h)))

-- where a piece begins, with one pair more before the others
later_of : (p : Piece) (ps : List Piece) (place : ℕ) (at : Float) → (place ≡ 0 → at ≡ p.end)
    → ((j : ℕ) → place ≡ suc j → at ≡ end_of ps j) → (j : ℕ) → place ≡ j → at ≡ end_of (p ∷ ps) j
unfolding end_of
later_of p ps place at first later zero q = first q
later_of p ps place at first later (suc j) q = later j q

-- the pairs passed, with one more before the others
passed_of : (p : Piece) (ps : List Piece) (cur w : Float) (place : ℕ) → holds_at (p ∷ ps) cur w 0 ≡ false
    → ((j : ℕ) → j < place → holds_at ps p.end (sub binary64 w (capacity_from p cur)) j ≡ false)
    → (j : ℕ) → j < suc place → holds_at (p ∷ ps) cur w j ≡ false
unfolding holds_at
passed_of p ps cur w place first others zero l = first
passed_of p ps cur w place first others (suc j) l = others j (omega (arith, l))

module _ (trailing start : Float) {wait : Float} {piece : ℕ} (finite : is_finite_wait wait ≡ true) where
  -- the wait through a piece has that piece
  through : (i : ℕ) (cur rate w : Float) → wait_through i start cur rate w ≡ some_wait wait piece
      → (piece ≡ i) × (wait ≡ sub binary64 (add binary64 cur (div binary64 w rate)) start)
  unfolding ends_in
  through i cur rate w e =
      let t = sym (ap time_in e) in
      (sym (ap piece_in e) ∙ rw (← t, finite), t)

  ends_from : (i : ℕ) (qs : List Piece) (cur w : Float) → wait_from i qs trailing start cur w ≡ some_wait wait piece
      → EndsFrom i qs trailing start cur w wait piece
  unfolding wait_from rate_of end_of left_at holds_at
  ends_from i [] cur w e =
      let rate = not_below_zero trailing in
      by_test (le rate z)
      (λ (l : le rate z ≡ true). absurd (true≢false (sym (ap is_after (rw l at e)))))
      (λ (l : le rate z ≡ false).
      let t = through i cur rate w (rw l at e) in
      record {
        place = 0;
        at = cur;
        left = w;
        number = t.0 ∙ sym (add-zero i);
        within = omega arith;
        positive = not-le-zero trailing l;
        first = λ q. refl;
        later = λ j q. absurd (omega (arith, q));
        left_of = refl;
        holds = λ l. absurd (omega (arith, l));
        passed = λ j l. absurd (omega (arith, l));
        waits = t.1;
      })
  ends_from i (p ∷ ps) cur w e =
      let rate = not_below_zero p.rate in
      let capacity = mul binary64 rate (sub binary64 p.end cur) in
      by_test (lt z rate && le w capacity)
      (λ (l : (lt z rate && le w capacity) ≡ true).
      let t = through i cur rate w (rw l at e) in
      let b = both_true (lt z rate) (le w capacity) l in
      record {
        place = 0;
        at = cur;
        left = w;
        number = t.0 ∙ sym (add-zero i);
        within = omega arith;
        positive = b.0;
        first = λ q. refl;
        later = λ j q. absurd (omega (arith, q));
        left_of = refl;
        holds = λ k. l;
        passed = λ j k. absurd (omega (arith, k));
        waits = t.1;
      })
      (λ (l : (lt z rate && le w capacity) ≡ false).
      let r = ends_from (suc i) ps p.end (sub binary64 w capacity) (rw l at e) in
      record {
        place = suc r.place;
        at = r.at;
        left = r.left;
        number = omega (arith, r.number);
        within = omega (arith, r.within);
        positive = r.positive;
        first = λ q. absurd (omega (arith, q));
        later = λ j q. later_of p ps r.place r.at r.first r.later j (omega (arith, q));
        left_of = r.left_of;
        holds = λ k. r.holds (omega (arith, k));
        passed = passed_of p ps cur w r.place l r.passed;
        waits = r.waits;
      })

-- ---- on the whole curve

rate_dropped : (i : ℕ) (ps : List Piece) (trailing : Float) (k : ℕ) → rate_of (drop i ps) trailing k ≡ rate_of ps trailing (i + k)
unfolding rate_of
rate_dropped zero ps trailing k = rw (zero-add k)
rate_dropped (suc i) [] trailing k = refl
rate_dropped (suc i) (p ∷ ps) trailing k = let e : suc i + k ≡ suc (i + k) = omega arith in rw e (rate_dropped i ps trailing k)

end_dropped : (i : ℕ) (ps : List Piece) (k : ℕ) → end_of (drop i ps) k ≡ end_of ps (i + k)
unfolding end_of
end_dropped zero ps k = rw (zero-add k)
end_dropped (suc i) [] k = refl
end_dropped (suc i) (p ∷ ps) k = let e : suc i + k ≡ suc (i + k) = omega arith in rw e (end_dropped i ps k)

first_within : (t : Float) (ps : List Piece) → first_after t ps ≤ length ps
unfolding first_after
first_within t [] = omega arith
first_within t (p ∷ ps) =
    by_test (le p.end t) (λ e. rw e (omega (arith, first_within t ps))) (λ e. rw e (omega arith))

module _ (ps : List Piece) (trailing start w : Float) {wait : Float} {piece : ℕ} where
  ends-in : EndsFrom (first_after start ps) (drop (first_after start ps) ps) trailing start start w wait piece
      → EndsIn ps trailing start w wait piece
  ends-in r =
      let i = first_after start ps in
      let n = length-drop i ps in
      let rate : rate_of (drop i ps) trailing r.place ≡ rate_of ps trailing piece =
      rate_dropped i ps trailing r.place ∙ ap (rate_of ps trailing) (sym r.number) in
      let k : r.place ≡ piece - i = omega (arith, r.number) in
      record {
        cur = r.at;
        left = r.left;
        within = omega (arith, r.number, r.within, n, first_within start ps);
        positive = rw (← rate) r.positive;
        after_start = omega (arith, r.number);
        from_start = λ e. r.first (omega (arith, e, r.number));
        from_end = λ j l e.
            r.later (j - i) (omega (arith, e, l, r.number))
            ∙ end_dropped i ps (j - i)
            ∙ ap (end_of ps) (omega (arith, l));
        left_of = r.left_of ∙ ap (left_at (drop i ps) start w) k;
        holds = λ l. sym (ap (holds_at (drop i ps) start w) k) ∙ r.holds (omega (arith, l, r.number, n));
        passed = λ j l. r.passed j (omega (arith, l, k));
        waits = rw (← rate) r.waits;
      }

pub piece_used : PieceUsed
unfolding invert_cumulative_hazard wait_of_rate
piece_used trailing p start w wait piece e above finite =
    let from = not_below_zero start in
    let ps = used_pairs p in
    ends-in ps trailing from w
    (ends_from trailing from finite (first_after from ps) (drop (first_after from ps) ps) from w (rw above at e))

-- ---- one piece alone: a pair that holds what is left is passed by no later piece

not_before : (ps : List Piece) (trailing start w : Float) {wait wait' : Float} {piece piece' : ℕ}
    → EndsIn ps trailing start w wait piece → EndsIn ps trailing start w wait' piece' → piece < piece' → ⊥
not_before ps trailing start w {piece = piece} a b l =
    let i = first_after start ps in
    true≢false
    (sym (a.holds (omega (arith, l, b.within))) ∙ b.passed (piece - i) (omega (arith, l, a.after_start, b.after_start)))

pub one_piece : OnePiece
one_piece ps trailing start w wait wait' piece piece' a b =
    by_test (ltb piece piece') (λ l. absurd (not_before ps trailing start w a b (ltb-true piece piece' l)))
    (λ n.
    by_test (ltb piece' piece) (λ l. absurd (not_before ps trailing start w b a (ltb-true piece' piece l)))
    (λ m. omega (arith, ltb-false piece piece' n, ltb-false piece' piece m)))

-- ---- no piece

-- a wait's piece is 0, whatever the wait
abbrev Zeroed : Option Wait → Type 0
Zeroed wait = piece_in wait ≡ 0

either_zeroed : (b : Bool) (x y : Option Wait) → Zeroed x → Zeroed y → Zeroed (cond b x y)
either_zeroed true x y h k = h
either_zeroed false x y h k = k

constant_zeroed : (rate w : Float) → Zeroed (constant_wait rate w)
unfolding constant_wait
constant_zeroed rate w = either_zeroed (le rate z) None _ refl refl

weibull_zeroed : (scale start w : Float) → Zeroed (weibull_wait scale start w)
unfolding weibull_wait
weibull_zeroed scale start w = either_zeroed (le scale z) None _ refl refl

rate_zeroed : (h : HazardRate) (p : Intervals) (start w : Float) → uses_pairs h ≡ false → Zeroed (wait_of_rate h p start w)
unfolding wait_of_rate uses_pairs
rate_zeroed Zero p start w u = refl
rate_zeroed (Constant rate) p start w u = constant_zeroed (not_below_zero rate) w
rate_zeroed (Gompertz eta) p start w u = constant_zeroed eta w
rate_zeroed (Piecewise trailing) p start w u = absurd (true≢false u)
rate_zeroed (Weibull scale) p start w u = weibull_zeroed scale start w

-- a wait's piece is 0 unless the wait is finite
abbrev FiniteOnly : Option Wait → Type 0
FiniteOnly wait = is_finite_wait (time_in wait) ≡ false → piece_in wait ≡ 0

either_finite : (b : Bool) (x y : Option Wait) → FiniteOnly x → FiniteOnly y → FiniteOnly (cond b x y)
either_finite true x y h k = h
either_finite false x y h k = k

through_finite : (i : ℕ) (start cur rate w : Float) → FiniteOnly (wait_through i start cur rate w)
unfolding ends_in
through_finite i start cur rate w n = rw n

piecewise_finite : (i : ℕ) (ps : List Piece) (trailing start cur w : Float) → FiniteOnly (wait_from i ps trailing start cur w)
unfolding wait_from
piecewise_finite i [] trailing start cur w =
    either_finite (le (not_below_zero trailing) z) None _ (λ n. refl) (through_finite i start cur (not_below_zero trailing) w)
piecewise_finite i (p ∷ ps) trailing start cur w =
    let rate = not_below_zero p.rate in
    let capacity = mul binary64 rate (sub binary64 p.end cur) in
    either_finite (lt z rate && le w capacity) (wait_through i start cur rate w) _ (through_finite i start cur rate w)
    (piecewise_finite (suc i) ps trailing start p.end (sub binary64 w capacity))

rate_finite : (h : HazardRate) (p : Intervals) (start w : Float) → FiniteOnly (wait_of_rate h p start w)
unfolding wait_of_rate
rate_finite Zero p start w n = refl
rate_finite (Constant rate) p start w n = constant_zeroed (not_below_zero rate) w
rate_finite (Gompertz eta) p start w n = constant_zeroed eta w
rate_finite (Piecewise trailing) p start w n =
    let i = first_after start (used_pairs p) in
    piecewise_finite i (drop i (used_pairs p)) trailing start start w n
rate_finite (Weibull scale) p start w n = weibull_zeroed scale start w

pub piece_zero : PieceZero
unfolding invert_cumulative_hazard
piece_zero h p start w wait piece e = record {
  other_kinds = λ u.
      sym (ap piece_in e)
      ∙ either_zeroed (le w z) (some_wait z 0) (wait_of_rate h p (not_below_zero start) w) refl (rate_zeroed h p (not_below_zero start) w u);
  no_threshold = λ l. sym (ap piece_in e) ∙ rw l;
  no_finite_wait = λ n.
      sym (ap piece_in e)
      ∙ either_finite (le w z) (some_wait z 0) (wait_of_rate h p (not_below_zero start) w) (λ m. refl) (rate_finite h p (not_below_zero start) w)
      (ap is_finite_wait (ap time_in e) ∙ n);
}
