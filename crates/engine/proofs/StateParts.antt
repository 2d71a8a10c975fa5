-- The state whose rows are changed in one clock's part, or after the clocks.
use mathlib.Core.Path.{◌≡◌, sym, ◌∙◌, ap}
use mathlib.Core.List.{[]}
use Prim.Native.Nat.{ℕ, ◌+◌, ◌*◌, ◌<◌, ◌≤◌}
use native.Mathlib.Omega.{arith}
use borrow.Author.Tests.{eqb-true, eqb-false, ltb-true, ltb-false}
use lib.Dec.{eqb, ltb}
use lib.ListN.{length, get_or, set, take, drop}
use lib.Seq.{get_or-drop}
use Rattle.hazards.proofs.Cases.{by_test}
use Rattle.clocks.specs.Layout.{WordRows, FloatRows, table, Coded}
use Rattle.clocks.proofs.Tables.{length-table, get_d_table, table-set, table_same}
use Rattle.engine.specs.State.{empty_slot, slot_at, with_slot, SharedState}
use Rattle.engine.specs.StateRows.{part_at, slot_of, slot_from, request_from, shared_from, state_from}
use Rattle.engine.specs.StateRows.{CodedShared, CodedState, SizedState, LeavesShared}
use Rattle.engine.proofs.ListParts.{within_first, put, part_here, part_before, part_after, rest_after}

-- ---- the rows after the clocks

module _ (w w' : WordRows) (same : drop 160 w' ≡ drop 160 w) where
  row_same : (i : ℕ) → get_or w' (160 + i) [] ≡ get_or w (160 + i) []
  row_same i = sym (get_or-drop 160 w' i []) ∙ (ap (λ (l : WordRows). get_or l i []) same ∙ get_or-drop 160 w i [])

  request_row_same : (i : ℕ) → get_or w' (161 + i) [] ≡ get_or w (161 + i) []
  request_row_same i = let e : 161 + i ≡ 160 + (1 + i) = omega arith in rw e (row_same (1 + i))

  pub shared_same : shared_from w' ≡ shared_from w
  unfolding shared_from
  shared_same =
      rw (
        row_same 0,
        table_same 16 (λ i. request_from (get_or w (161 + i) [])) (λ i. request_from (get_or w' (161 + i) [])) (λ i h. rw (request_row_same i)),
      )

  pub coded_same : CodedShared w → CodedShared w'
  coded_same h = record {
    counts = rw (row_same 0) h.counts;
    requests = λ i l. rw (request_row_same i) (h.requests i l);
  }

-- ---- a clock's part

pub slot-at : (w : WordRows) (f : FloatRows) (k : ℕ) → k < 16 → slot_at (state_from w f) k ≡ slot_from w f k
unfolding state_from
slot-at w f k h = get_d_table 16 (λ i. slot_from w f i) k empty_slot h

pub slots_sixteen : (w : WordRows) (f : FloatRows) → length (state_from w f).slots ≡ 16
unfolding state_from
slots_sixteen w f = length-table 16 (λ i. slot_from w f i)

module _ (w z : WordRows) (f y : FloatRows) (k : ℕ) (hk : k < 16) (sized : SizedState w f) (lz : length z ≡ 10) (ly : length y ≡ 25) where
  words_fit : 10 * k + 10 ≤ length w
  words_fit = omega (arith, sized.words)

  floats_fit : 25 * k + 25 ≤ length f
  floats_fit = omega (arith, sized.floats)

  abbrev pub put_words : WordRows
  put_words = put w z (10 * k) 10

  abbrev pub put_floats : FloatRows
  put_floats = put f y (25 * k) 25

  words_other : (i : ℕ) → (i ≡ k → ⊥) → part_at 10 i put_words ≡ part_at 10 i w
  words_other i apart =
      by_test (ltb i k) (λ e. part_before w z (10 * k) 10 lz words_fit (10 * i) 10 (omega (arith, ltb-true i k e)))
      (λ e. part_after w z (10 * k) 10 lz words_fit (10 * i) 10 (omega (arith, ltb-false i k e, apart)))

  floats_other : (i : ℕ) → (i ≡ k → ⊥) → part_at 25 i put_floats ≡ part_at 25 i f
  floats_other i apart =
      by_test (ltb i k) (λ e. part_before f y (25 * k) 25 ly floats_fit (25 * i) 25 (omega (arith, ltb-true i k e)))
      (λ e. part_after f y (25 * k) 25 ly floats_fit (25 * i) 25 (omega (arith, ltb-false i k e, apart)))

  words_here : part_at 10 k put_words ≡ z
  words_here = part_here w z (10 * k) 10 lz words_fit

  floats_here : part_at 25 k put_floats ≡ y
  floats_here = part_here f y (25 * k) 25 ly floats_fit

  pub rest_same : drop 160 put_words ≡ drop 160 w
  rest_same = rest_after w z (10 * k) 10 lz words_fit 160 (omega arith)

  slot_other : (i : ℕ) → i < 16 → (i ≡ k → ⊥) → slot_from put_words put_floats i ≡ slot_from w f i
  slot_other i h apart = rw (words_other i apart, floats_other i apart)

  pub clock_put : state_from put_words put_floats ≡ with_slot (state_from w f) k (slot_of z y) (shared_from w)
  unfolding state_from
  clock_put =
      let here : slot_from put_words put_floats k ≡ slot_of z y = rw (words_here, floats_here) in
      let slots =
      table-set 16 (λ i. slot_from w f i) (λ i. slot_from put_words put_floats i) k hk slot_other
      ∙ ap (set (table 16 (λ i. slot_from w f i)) k) here in
      λ i. record { slots = slots i; shared = shared_same w put_words rest_same i }

  pub clock_coded : CodedState w f → Coded z y → CodedState put_words put_floats
  clock_coded h c = record {
    clocks =
        λ i l.
        by_test (eqb i k) (λ e. let same : i ≡ k = eqb-true i k e in rw (same, words_here, floats_here) c)
        (λ e.
        let apart : i ≡ k → ⊥ = eqb-false i k e in
        rw (words_other i apart, floats_other i apart) (h.clocks i l));
    shared = coded_same w put_words rest_same h.shared;
  }

-- ---- the shared state

module _ (w w' : WordRows) (f : FloatRows) (sized : length w ≡ 177) (sized' : length w' ≡ 177) (same : take 160 w' ≡ take 160 w) where
  part_same : (i : ℕ) → i < 16 → part_at 10 i w' ≡ part_at 10 i w
  part_same i h =
      sym (within_first w' 160 (10 * i) 10 (omega arith) (omega arith))
      ∙ (ap (λ (l : WordRows). part_at 10 i l) same ∙ within_first w 160 (10 * i) 10 (omega arith) (omega arith))

  pub clocks_kept : (p : SharedState) → shared_from w' ≡ p → state_from w' f ≡ record { slots = (state_from w f).slots; shared = p }
  unfolding state_from
  clocks_kept p e =
      let slots = table_same 16 (λ i. slot_from w f i) (λ i. slot_from w' f i) (λ i h. rw (part_same i h)) in
      λ i. record { slots = slots i; shared = e i }

  pub clocks_coded : CodedShared w' → CodedState w f → CodedState w' f
  clocks_coded shared h = record {
    clocks = λ i l. rw (part_same i l) (h.clocks i l);
    shared = shared;
  }

module _ (w w' : WordRows) (f : FloatRows) (sized : length w ≡ 177) (sized' : length w' ≡ 177) (p : SharedState)
    (left : LeavesShared w w' p) where
  pub shared_put : state_from w' f ≡ record { slots = (state_from w f).slots; shared = p }
  shared_put = clocks_kept w w' f sized sized' left.clocks p left.shared

  pub shared_coded : CodedState w f → CodedState w' f
  shared_coded h = clocks_coded w w' f sized sized' left.clocks (left.coded h.shared) h
