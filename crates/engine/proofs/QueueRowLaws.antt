-- The queue in its rows: places emptied and requests moved up, one turn at a time, and a request taken out and put in.
use mathlib.Core.Path.{◌≡◌, refl, sym, ◌∙◌, ap, ap₂}
use mathlib.Core.Bool.{true}
use mathlib.Core.List.{List, [], ◌∷◌, ◌++◌, append_assoc, append-nil}
use Prim.Native.Nat.{ℕ, zero, suc, ◌+◌, ◌-◌, ◌<◌, ◌≤◌, min}
use native.Mathlib.Numerals.{add-one}
use native.Mathlib.Omega.{arith}
use lib.ListN.{length, get_or, set, take, drop, replicate, length-append, length-replicate, replicate-append-replicate}
use lib.Seq.{paste, paste-zero, length-paste, set_out, take-suc-set, take_all, drop-set-lt, drop-drop, get_or-drop}
use Rattle.std.proofs.lemmas.List.Edits.{fill_from_more}
use Rattle.clocks.specs.Layout.{WordRows}
use Rattle.engine.specs.Queue.{without}
use Rattle.engine.specs.State.{empty_request, queued_requests, with_queue, with_request}
use Rattle.engine.specs.StateRows.{request_from, queue_from, shared_of, shared_from, coded_request, LeavesShared}
use Rattle.engine.specs.QueueInternals.{KeepsRest, MovedUp, ClearedFrom}
use Rattle.engine.specs.declared.state.Request.{Request}
use Rattle.engine.proofs.QueueLaws.{without_kept, without_left}
use Rattle.engine.proofs.RequestRows.{count_at, request_in, index_in, queue_sixteen, request-in, row_first, row-all}
use Rattle.engine.proofs.RequestRows.{request_stored, rest_stored, rest_none, rest_then, counted_as, counted}

-- one place more among the first ones
place_stored : (w : WordRows) → length w ≡ 177 → (i : ℕ) → i < 16 → (row : List ℕ)
    → take (i + 1) (queue_from (set w (161 + i) row)) ≡ take i (queue_from w) ++ (request_from row ∷ [])
place_stored w sized i h row =
    rw (request_stored w sized i h row, add-one)
    (take-suc-set (queue_from w) i (request_from row) (omega (arith, queue_sixteen w)))

-- ---- places emptied

abbrev pub no_words : List ℕ
no_words = replicate 8 0

empty_row : request_from no_words ≡ empty_request
unfolding request_from
empty_row = refl

empty_coded : coded_request no_words ≡ true
unfolding coded_request
empty_coded = refl

-- the places before i are those of w₀, and empty from `from` on
pub record Clearing (w₀ : WordRows) (from i : ℕ) (w : WordRows) : Type 0 where
  pub first : take i (queue_from w) ≡ take from (queue_from w₀) ++ replicate (i - from) empty_request
  pub rest : KeepsRest w₀ w

pub clearing_none : (w : WordRows) (from : ℕ) → Clearing w from from w
clearing_none w from =
    let e : from - from ≡ 0 = omega arith in
    record { first = rw e (sym (append-nil _)); rest = rest_none w }

module _ (w₀ w : WordRows) (from i : ℕ) (c : Clearing w₀ from i w) where
  pub clearing_more : length w ≡ 177 → from ≤ i → i < 16 → Clearing w₀ from (i + 1) (set w (161 + i) no_words)
  clearing_more sized p h =
      let e : i + 1 - from ≡ i - from + 1 = omega arith in
      record {
        first =
            place_stored w sized i h no_words ∙ ap₂ (λ (l : List Request) (r : Request). l ++ (r ∷ [])) c.first empty_row
            ∙ rw (e, ← replicate-append-replicate (i - from) 1 empty_request) (append_assoc (take from (queue_from w₀)) _ _);
        rest = rest_then c.rest (rest_stored w sized i h no_words (λ k. empty_coded));
      }

  pub clearing-all : i ≡ 16 → ClearedFrom w₀ w from
  clearing-all e = record {
    queue = sym (take_all 16 (queue_from w) (omega (arith, queue_sixteen w))) ∙ rw e at c.first;
    rest = c.rest;
  }

-- so many places from one on
module _ (w : WordRows) (sized : length w ≡ 177) (from : ℕ) where
  abbrev emptied_rows : ℕ → WordRows
  emptied_rows n = paste w (161 + from) (replicate n no_words) n

  one_more : (n m : ℕ) → m ≡ n + 1 → from + m ≤ 16 → Clearing w from (from + n) (emptied_rows n) → Clearing w from (from + m) (emptied_rows m)
  one_more n m e h c =
      let there : from + m ≡ from + n + 1 = omega arith in
      let place : 161 + from + n ≡ 161 + (from + n) = omega arith in
      let long = length-paste w (161 + from) (replicate n no_words) n (omega arith) (omega (arith, length-replicate n no_words)) ∙ sized in
      let next = clearing_more w (emptied_rows n) from (from + n) c long (omega arith) (omega arith) in
      rw (there, e) (rw (← place, fill_from_more w (161 + from) n no_words (omega arith)) at next)

  emptied_places : (n : ℕ) → from + n ≤ 16 → Clearing w from (from + n) (emptied_rows n)
  emptied_places zero h =
      let e : from + 0 ≡ from = omega arith in
      rw (e, ← paste-zero w (161 + from) []) (clearing_none w from)
  emptied_places (suc n) h = one_more n (suc n) (sym (add-one n)) h (emptied_places n (omega arith))

  pub emptied : from ≤ 16 → ClearedFrom w (paste w (161 + from) (replicate (16 - from) no_words) (16 - from)) from
  emptied h = clearing-all w _ from (from + (16 - from)) (emptied_places (16 - from) (omega arith)) (omega arith)

-- ---- requests moved up

-- of the first i requests those without the index stand in the first places; those from i on are still where they were
pub record Moving (w₀ : WordRows) (index i : ℕ) (w : WordRows) (kept : ℕ) : Type 0 where
  pub few : kept ≤ i
  pub many : kept ≡ length (without index (take i (queued_requests (shared_from w₀))))
  pub first : take kept (queue_from w) ≡ without index (take i (queued_requests (shared_from w₀)))
  pub later : drop i (queue_from w) ≡ drop i (queue_from w₀)
  pub rest : KeepsRest w₀ w

pub moving_none : (w : WordRows) (index : ℕ) → Moving w index 0 w 0
unfolding without
moving_none w index = record { few = omega arith; many = refl; first = refl; later = refl; rest = rest_none w }

module _ (w₀ w : WordRows) (index i kept : ℕ) (m : Moving w₀ index i w kept) (h : i < min (count_at w₀ 0) 16) where
  -- the request in place i is still the one of the start
  same_there : request_in w i ≡ request_in w₀ i
  same_there =
      let e : i + 0 ≡ i = omega arith in
      sym (request-in w i empty_request (omega arith))
      ∙ (rw e at (sym (get_or-drop i (queue_from w) 0 empty_request) ∙ ap (λ (l : List Request). get_or l 0 empty_request) m.later
      ∙ get_or-drop i (queue_from w₀) 0 empty_request))
      ∙ request-in w₀ i empty_request (omega arith)

  later_still : drop (i + 1) (queue_from w) ≡ drop (i + 1) (queue_from w₀)
  later_still = sym (drop-drop 1 i (queue_from w)) ∙ ap (drop 1) m.later ∙ drop-drop 1 i (queue_from w₀)

  abbrev row : List ℕ
  row = get_or w (161 + i) []

  pub moving_more : length w ≡ 177 → (get_or row 4 0 ≡ index → ⊥) → Moving w₀ index (i + 1) (set w (161 + kept) row) (kept + 1)
  moving_more sized n =
      let p = m.few in
      let free : kept < 16 = omega arith in
      let us = take i (queued_requests (shared_from w₀)) in
      let stays = without_kept index us (request_in w₀ i) (row_first w₀ i h)
      (λ e. n (sym (index_in row) ∙ (ap (λ (r : Request). r.index) same_there ∙ e))) in
      record {
        few = omega arith;
        many = rw (stays, length-append) (omega (arith, m.many));
        first =
            rw stays (place_stored w sized kept free row ∙ ap₂ (λ (l : List Request) (r : Request). l ++ (r ∷ [])) m.first same_there);
        later =
            rw (request_stored w sized kept free row) (drop-set-lt (i + 1) (queue_from w) kept (request_in w i) (omega arith))
            ∙ later_still;
        rest = rest_then m.rest (rest_stored w sized kept free row (λ k. k.requests i (omega arith)));
      }

  pub moving_left : get_or row 4 0 ≡ index → Moving w₀ index (i + 1) w kept
  moving_left e =
      let p = m.few in
      let us = take i (queued_requests (shared_from w₀)) in
      let goes = without_left index us (request_in w₀ i) (row_first w₀ i h)
      (ap (λ (r : Request). r.index) (sym same_there) ∙ (index_in row ∙ e)) in
      record {
        few = omega arith;
        many = rw goes m.many;
        first = rw goes m.first;
        later = later_still;
        rest = m.rest;
      }

module _ (w₀ w : WordRows) (index i kept : ℕ) (m : Moving w₀ index i w kept) where
  pub moving-all : i ≡ min (count_at w₀ 0) 16 → MovedUp w₀ w (without index (queued_requests (shared_from w₀))) kept
  moving-all e =
      let all = row-all w₀ i (omega arith) in
      let p = m.few in
      record {
        many = rw (← all) m.many;
        few = omega arith;
        first = rw (← all) m.first;
        rest = m.rest;
      }

-- ---- a request taken out

module _ (w w₁ w₂ w₃ : WordRows) (rs : List Request) (kept : ℕ) (m : MovedUp w w₁ rs kept) (c : ClearedFrom w₁ w₂ kept) where
  places_left : queue_from w₂ ≡ rs ++ replicate (16 - length rs) empty_request
  places_left = c.queue ∙ ap₂ (λ (l : List Request) (k : ℕ). l ++ replicate (16 - k) empty_request) m.first m.many

  requests_left : counted_as (shared_from w₂).queue kept (count_at w₂ 1) (count_at w₂ 2) (count_at w₂ 3) ≡ with_queue (shared_from w) rs
  unfolding shared_from shared_of
  requests_left = rw (places_left, c.rest.counts ∙ m.rest.counts, m.many)

  pub taken_out : LeavesShared w₂ w₃ (counted_as (shared_from w₂).queue kept (count_at w₂ 1) (count_at w₂ 2) (count_at w₂ 3))
      → LeavesShared w w₃ (with_queue (shared_from w) rs)
  taken_out s = counted (rest_then m.rest c.rest) s requests_left

-- ---- a request put in

-- its row is stored where there is a place for it
pub record PutIn (w w' : WordRows) (r : Request) : Type 0 where
  pub queue : queue_from w' ≡ set (queue_from w) (count_at w 0) r
  pub rest : KeepsRest w w'

module _ (w : WordRows) (r : Request) where
  pub put_stored : length w ≡ 177 → count_at w 0 < 16 → (row : List ℕ) → (request_from row ≡ r) × (coded_request row ≡ true)
      → PutIn w (set w (161 + count_at w 0) row) r
  put_stored sized h row e = record {
    queue = request_stored w sized (count_at w 0) h row ∙ ap (set (queue_from w) (count_at w 0)) e.0;
    rest = rest_stored w sized (count_at w 0) h row (λ k. e.1);
  }

  pub put_beyond : 16 ≤ count_at w 0 → PutIn w w r
  put_beyond h = record {
    queue = sym (set_out (queue_from w) (count_at w 0) r (omega (arith, queue_sixteen w)));
    rest = rest_none w;
  }

module _ (w w₁ w₂ : WordRows) (r : Request) (p : PutIn w w₁ r) where
  request_more : counted_as (shared_from w₁).queue (count_at w 0 + 1) (count_at w 1 + 1) (count_at w 2) (count_at w 3)
      ≡ with_request (shared_from w) r
  unfolding shared_from shared_of
  request_more = rw p.queue

  pub put_in_left : LeavesShared w₁ w₂ (counted_as (shared_from w₁).queue (count_at w 0 + 1) (count_at w 1 + 1) (count_at w 2) (count_at w 3))
      → LeavesShared w w₂ (with_request (shared_from w) r)
  put_in_left s = counted p.rest s request_more
