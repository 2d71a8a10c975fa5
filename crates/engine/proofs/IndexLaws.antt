-- Indices of requests that stand once: one request more, and one whose index is there before it.
use mathlib.Core.Path.{◌≡◌, refl, sym}
use mathlib.Core.Bool.{Bool, true, false, not, cond, true≢false}
use mathlib.Core.List.{List, [], ◌∷◌, ◌++◌}
use Prim.Native.Nat.{ℕ, suc, ◌+◌, ◌<◌, ◌≤◌}
use native.Mathlib.Nat.{le_of_lt}
use native.Mathlib.Omega.{arith}
use borrow.Author.Tests.{eqb-true, eqb-false, eq-eqb, ne_eqb, not-true}
use lib.Dec.{eqb}
use lib.ListN.{length, get_or, take, drop, length-take}
use lib.Seq.{split_at, take-take, get_or-take}
use Rattle.hazards.proofs.ListLaws.{take_next}
use Rattle.hazards.proofs.Cases.{by_test, both_true}
use Rattle.engine.specs.Queue.{is_queued}
use Rattle.engine.specs.Validation.{distinct}
use Rattle.engine.specs.declared.state.Request.{Request}
use Rattle.engine.proofs.Conjunctions.{and_false}

-- ---- one request more

neither : (a b : Bool) → cond a true b ≡ false → (a ≡ false) × (b ≡ false)
neither true b e = absurd (true≢false e)
neither false b e = (refl, e)

there_more : (x : ℕ) (rs : List Request) (r : Request) → is_queued x rs ≡ false → (r.index ≡ x → ⊥) → is_queued x (rs ++ (r ∷ [])) ≡ false
unfolding is_queued
there_more x [] r h n = rw (ne_eqb r.index x n)
there_more x (q ∷ rs) r h n =
    let f = neither (eqb q.index x) (is_queued x rs) h in rw f.0 (there_more x rs r f.1 n)

there_first : (x : ℕ) (rs : List Request) (r : Request) (qs : List Request) → r.index ≡ x → is_queued x (rs ++ (r ∷ qs)) ≡ true
unfolding is_queued
there_first x [] r qs h = rw (eq-eqb r.index x h)
there_first x (q ∷ rs) r qs h =
    by_test (eqb q.index x) (λ (e : eqb q.index x ≡ true). rw e)
    (λ (e : eqb q.index x ≡ false). rw e (there_first x rs r qs h))

pub distinct_none : distinct [] ≡ true
unfolding distinct
distinct_none = refl

pub distinct_more : (rs : List Request) (r : Request) → distinct rs ≡ true → is_queued r.index rs ≡ false
    → distinct (rs ++ (r ∷ [])) ≡ true
unfolding distinct is_queued
distinct_more [] r h n = refl
distinct_more (q ∷ rs) r h n =
    let f = neither (eqb q.index r.index) (is_queued r.index rs) n in
    let unlike : r.index ≡ q.index → ⊥ = λ e. eqb-false q.index r.index f.0 (sym e) in
    let b = both_true (not (is_queued q.index rs)) (distinct rs) h in
    let alone = not-true (is_queued q.index rs) b.0 in
    rw (there_more q.index rs r alone unlike) (distinct_more rs r b.1 f.1)

pub distinct_fails : (rs : List Request) (r : Request) (qs : List Request) → is_queued r.index rs ≡ true
    → distinct (rs ++ (r ∷ qs)) ≡ false
unfolding distinct is_queued
distinct_fails [] r qs h = absurd (true≢false (sym h))
distinct_fails (q ∷ rs) r qs h =
    let test = eqb q.index r.index in
    by_test test
    (λ (e : test ≡ true). rw (there_first q.index rs r qs (sym (eqb-true q.index r.index e))))
    (λ (e : test ≡ false). rw (distinct_fails rs r qs (rw e at h)) (and_false (not (is_queued q.index (rs ++ (r ∷ qs))))))

-- the request at a place of a list, with those before it
module _ (rs : List Request) (i : ℕ) (d : Request) where
  pub distinct_next : i < length rs → distinct (take i rs) ≡ true → is_queued (get_or rs i d).index (take i rs) ≡ false
      → distinct (take (i + 1) rs) ≡ true
  distinct_next h t n = rw (take_next rs i d h) (distinct_more (take i rs) (get_or rs i d) t n)

  pub repeated : (n : ℕ) → i < n → n ≤ length rs → is_queued (get_or rs i d).index (take i rs) ≡ true → distinct (take n rs) ≡ false
  repeated n h k t =
      let within : i < length (take n rs) = omega (arith, length-take n rs) in
      let split = split_at (take n rs) i d within in
      rw (split, take-take i n rs (le_of_lt h), get_or-take n rs i d h)
      (distinct_fails (take i rs) (get_or rs i d) (drop (suc i) (take n rs)) t)
