-- Laws of the queue: the order of two requests case by case, the queued ones one after another, and what is left without one.
use mathlib.Core.Path.{◌≡◌, refl, sym, ap}
use mathlib.Core.Bool.{Bool, true, false, not, cond}
use mathlib.Core.List.{List, [], ◌∷◌, ◌++◌, append-nil}
use mathlib.Core.Option.{none, some}
use Prim.Native.Nat.{ℕ, suc, ◌+◌, ◌-◌, ◌^◌, ◌<◌, ◌≤◌, min}
use native.Mathlib.Numerals.{add-one}
use native.Mathlib.Omega.{arith}
use lib.Dec.{eqb, ltb, lit≤}
use lib.IntN.{ℤ}
use lib.ListN.{length, get_or, take, drop, length-take, drop_of_length-le}
use lib.Seq.{drop-cons, take-suc, take_all, get_or-take}
use lib.Signed.{lt_z, mag}
use mir.Facts.{to_z-of_z}
use mir.Syntax.{w32}
use mir.Val.{to_z, of_z, hbits}
use borrow.Author.Tests.{eq-eqb, ne_eqb}
use Rattle.engine.specs.Queue.{request_ticks, comes_first, earlier_of, next_request, keep_if, without, is_queued}
use Rattle.engine.specs.State.{empty_request}
use Rattle.engine.specs.declared.state.Request.{Request}

-- ---- a priority, as the code compares it
pub reads_back : (z : ℤ) → mag z < 2 ^ hbits w32 → z ≡ to_z w32 (of_z w32 z)
reads_back z f = sym (to_z-of_z {w = w32} (record { sfits = f }))

-- ---- which of two comes first
module _ (a b : Request) where
  pub fewer_first : ltb (request_ticks a) (request_ticks b) ≡ true → comes_first a b ≡ true
  unfolding comes_first
  fewer_first t = rw t

  module _ (t : ltb (request_ticks a) (request_ticks b) ≡ false) where
    pub more_later : ltb (request_ticks b) (request_ticks a) ≡ true → comes_first a b ≡ false
    unfolding comes_first
    more_later u = rw (t, u)

    module _ (u : ltb (request_ticks b) (request_ticks a) ≡ false) where
      pub higher_first : lt_z b.priority a.priority ≡ true → comes_first a b ≡ true
      unfolding comes_first
      higher_first p = rw (t, u, p)

      module _ (p : lt_z b.priority a.priority ≡ false) where
        pub lower_later : lt_z a.priority b.priority ≡ true → comes_first a b ≡ false
        unfolding comes_first
        lower_later q = rw (t, u, p, q)

        pub by_index : lt_z a.priority b.priority ≡ false → comes_first a b ≡ ltb a.index b.index
        unfolding comes_first
        by_index q = rw (t, u, p, q)

-- ---- the queued requests, of sixteen places
module _ (rs : List Request) (n : ℕ) (sixteen : length rs ≡ 16) where
  pub queued-length : length (take n rs) ≡ min n 16
  queued-length = rw (length-take, sixteen)

  pub queued_next : (i : ℕ) → i < min n 16 → drop i (take n rs) ≡ get_or rs i empty_request ∷ drop (i + 1) (take n rs)
  queued_next i h =
      rw (add-one, ← get_or-take n rs i empty_request (omega arith)) (drop-cons (take n rs) i empty_request (rw queued-length h))

  -- from the last to the first
  pub queued_back : (i : ℕ) → 0 < i → i ≤ min n 16 → drop (i - 1) (take n rs) ≡ get_or rs (i - 1) empty_request ∷ drop i (take n rs)
  queued_back i p h =
      let e : i - 1 + 1 ≡ i = omega arith in
      rw e at (queued_next (i - 1) (omega arith))

  pub queued_end : (i : ℕ) → min n 16 ≤ i → drop i (take n rs) ≡ []
  queued_end i h = drop_of_length-le (take n rs) {i = i} (rw queued-length h)

  pub queued_first : (i : ℕ) → i < min n 16 → take (i + 1) (take n rs) ≡ take i (take n rs) ++ (get_or rs i empty_request ∷ [])
  queued_first i h =
      rw (add-one, ← get_or-take n rs i empty_request (omega arith)) (take-suc (take n rs) i empty_request (rw queued-length h))

  pub queued-all : (i : ℕ) → min n 16 ≤ i → take i (take n rs) ≡ take n rs
  queued-all i h = take_all i (take n rs) (rw queued-length h)

-- ---- the earliest, and whether one is there: the first of these, or there is none
module _ {us vs : List Request} {r : Request} (first : us ≡ r ∷ vs) where
  pub next_more : next_request us ≡ earlier_of (some r) (next_request vs)
  unfolding next_request
  next_more = rw first

  pub there_here : (index : ℕ) → r.index ≡ index → is_queued index us ≡ true
  unfolding is_queued
  there_here index h = rw (first, eq-eqb _ _ h)

  pub there_later : (index : ℕ) → (r.index ≡ index → ⊥) → is_queued index us ≡ is_queued index vs
  unfolding is_queued
  there_later index h = rw (first, ne_eqb _ _ h)

pub next_none : {us : List Request} → us ≡ [] → next_request us ≡ none
unfolding next_request
next_none e = rw e

pub there_none : {us : List Request} (index : ℕ) → us ≡ [] → is_queued index us ≡ false
unfolding is_queued
there_none index e = rw e

-- ---- the requests without one: one request more, which is kept or not
module _ (keep : Request → Bool) where
  keep_append : (us vs : List Request) → keep_if keep (us ++ vs) ≡ keep_if keep us ++ keep_if keep vs
  keep_append [] vs = refl
  keep_append (u ∷ us) vs = go (keep u) (keep_append us vs)
    where
      go : (t : Bool) → keep_if keep (us ++ vs) ≡ keep_if keep us ++ keep_if keep vs
          → cond t (u ∷ keep_if keep (us ++ vs)) (keep_if keep (us ++ vs)) ≡ cond t (u ∷ keep_if keep us) (keep_if keep us) ++ keep_if keep vs
      go true e = ap (λ (l : List Request). u ∷ l) e
      go false e = e

  keep-length : (us : List Request) → length (keep_if keep us) ≤ length us
  keep-length [] = lit≤ tt
  keep-length (u ∷ us) = go (keep u) (keep-length us)
    where
      go : (t : Bool) → length (keep_if keep us) ≤ length us → length (cond t (u ∷ keep_if keep us) (keep_if keep us)) ≤ suc (length us)
      go true h = omega arith
      go false h = omega arith

pub without-length : (index : ℕ) (us : List Request) → length (without index us) ≤ length us
unfolding without
without-length index us = keep-length (λ r. not (eqb r.index index)) us

module _ (index : ℕ) (us : List Request) (r : Request) {vs : List Request} (last : vs ≡ us ++ (r ∷ [])) where
  pub without_kept : (r.index ≡ index → ⊥) → without index vs ≡ without index us ++ (r ∷ [])
  unfolding without
  without_kept h = rw (last, keep_append (λ x. not (eqb x.index index)) us (r ∷ []), ne_eqb _ _ h)

  pub without_left : r.index ≡ index → without index vs ≡ without index us
  unfolding without
  without_left h = rw (last, keep_append (λ x. not (eqb x.index index)) us (r ∷ []), eq-eqb _ _ h) (append-nil _)
