-- Two states in coded rows are the same in every field exactly where their rows are the same in every number.
use mathlib.Core.Path.{◌≡◌, refl, sym, ◌∙◌}
use mathlib.Core.Bool.{Bool, true, ◌&&◌}
use mathlib.Core.List.{List, [], ◌∷◌}
use Prim.Native.Nat.{ℕ, ◌+◌, ◌*◌, ◌-◌, ◌/◌, ◌%◌, ◌<◌}
use native.Mathlib.Nat.{div-add-mod', mod-lt}
use native.Mathlib.Omega.{arith}
use borrow.Author.Tests.{eqb-true, eqb-false, ltb-true, ltb-false}
use lib.Dec.{eqb, ltb}
use lib.Ieee.{nan}
use lib.ListN.{get_or}
use Rattle.hazards.proofs.Cases.{by_test, both_true}
use Rattle.clocks.specs.Layout.{WordRows, FloatRows, every_below, is_u32}
use Rattle.clocks.proofs.EveryBelow.{every_at, every_from}
use Rattle.engine.specs.Comparison.{same_float, same_slot, same_request, same_shared, same_state}
use Rattle.engine.specs.ComparisonInternals.{same_word_row, same_float_row, same_word_rows, same_float_rows}
use Rattle.engine.specs.State.{empty_request, slot_at}
use Rattle.engine.specs.StateRows.{part_at, request_from, queue_from, shared_of, shared_from, state_from}
use Rattle.engine.specs.StateRows.{coded_counts, coded_request, CodedState, SizedState}
use Rattle.engine.proofs.ComparisonLaws.{state_same}
use Rattle.engine.proofs.RequestRows.{request-in}
use Rattle.engine.proofs.SameClocks.{same_word, zeros_at, word_at, number_at, SameInRows, slot_same, rows_same}
use Rattle.engine.proofs.SameWords.{both_ways, all_of, each_of, every_eight, priority_as}
use Rattle.engine.proofs.StateParts.{slot-at}
use Rattle.engine.proofs.ValidStates.{part_row}

-- ---- a request

abbrev request_tests : List ℕ → List Bool
request_tests row = is_u32 (get_or row 3 0) ∷ eqb (get_or row 5 0) 0 ∷ eqb (get_or row 6 0) 0 ∷ eqb (get_or row 7 0) 0 ∷ []

module _ (a b : List ℕ) (c : coded_request a ≡ true) (d : coded_request b ≡ true) where
  abbrev e : ℕ → Bool
  e i = same_word a b i

  abbrev request_fields : List Bool
  request_fields = e 0 ∷ e 1 ∷ e 2 ∷ e 3 ∷ e 4 ∷ []

  request_places : same_request (request_from a) (request_from b) ≡ all_of request_fields
  unfolding same_request request_from coded_request
  request_places = rw (priority_as (get_or a 3 0) (get_or b 3 0) (each_of (request_tests a) c 0) (each_of (request_tests b) d 0))

  request_same : same_word_row a b ≡ true → same_request (request_from a) (request_from b) ≡ true
  request_same h =
      let x = word_at a b h in
      request_places ∙ rw (x 0 (omega arith), x 1 (omega arith), x 2 (omega arith), x 3 (omega arith), x 4 (omega arith))

  request_row : same_request (request_from a) (request_from b) ≡ true → same_word_row a b ≡ true
  unfolding same_word_row coded_request
  request_row h =
      let t = each_of request_fields (sym request_places ∙ h) in
      let x = each_of (request_tests a) c in
      let y = each_of (request_tests b) d in
      every_eight e (t 0) (t 1) (t 2) (t 3) (t 4) (zeros_at a b 5 (x 1) (y 1)) (zeros_at a b 6 (x 2) (y 2))
      (zeros_at a b 7 (x 3) (y 3))

-- ---- the counts

abbrev count_tests : List ℕ → List Bool
count_tests row = eqb (get_or row 4 0) 0 ∷ eqb (get_or row 5 0) 0 ∷ eqb (get_or row 6 0) 0 ∷ eqb (get_or row 7 0) 0 ∷ []

counts_row : (a b : List ℕ) → coded_counts a ≡ true → coded_counts b ≡ true
    → same_word a b 0 ≡ true → same_word a b 1 ≡ true → same_word a b 2 ≡ true → same_word a b 3 ≡ true → same_word_row a b ≡ true
unfolding same_word_row coded_counts
counts_row a b c d e₀ e₁ e₂ e₃ =
    let x = each_of (count_tests a) c in
    let y = each_of (count_tests b) d in
    every_eight (same_word a b) e₀ e₁ e₂ e₃ (zeros_at a b 4 (x 0) (y 0)) (zeros_at a b 5 (x 1) (y 1))
    (zeros_at a b 6 (x 2) (y 2)) (zeros_at a b 7 (x 3) (y 3))

-- ---- a state

module _ (a b : WordRows) (f g : FloatRows) where
  abbrev words_at : ℕ → Bool
  words_at r = same_word_row (get_or a r []) (get_or b r [])

  abbrev floats_at : ℕ → Bool
  floats_at r = same_float_row (get_or f r []) (get_or g r [])

  abbrev slot_test : ℕ → Bool
  slot_test k = same_slot (slot_at (state_from a f) k) (slot_at (state_from b g) k)

  abbrev request_test : ℕ → Bool
  request_test i = same_request (get_or (queue_from a) i empty_request) (get_or (queue_from b) i empty_request)

  abbrev count : ℕ → Bool
  count i = same_word (get_or a 160 []) (get_or b 160 []) i

  abbrev state_fields : List Bool
  state_fields = every_below 16 slot_test ∷ every_below 16 request_test ∷ count 0 ∷ count 1 ∷ count 2 ∷ count 3 ∷ []

  state_places : same_state (state_from a f) (state_from b g) ≡ all_of state_fields
  unfolding same_state same_shared state_from shared_from shared_of
  state_places = refl

  module _ (ca : CodedState a f) (cb : CodedState b g) where
    module _ (words : (r : ℕ) → r < 177 → words_at r ≡ true) (floats : (r : ℕ) → r < 400 → floats_at r ≡ true) where
      clock_rows : (k : ℕ) → k < 16 → SameInRows (part_at 10 k a) (part_at 10 k b) (part_at 25 k f) (part_at 25 k g)
      clock_rows k h = record {
        words = λ r l. rw (part_row 10 k r a l, part_row 10 k r b l) (words (10 * k + r) (omega arith));
        floats = λ r l. rw (part_row 25 k r f l, part_row 25 k r g l) (floats (25 * k + r) (omega arith));
      }

      slots_pass : (k : ℕ) → k < 16 → slot_test k ≡ true
      slots_pass k h =
          rw (slot-at a f k h, slot-at b g k h)
          (slot_same (part_at 10 k a) (part_at 10 k b) (part_at 25 k f) (part_at 25 k g) (ca.clocks k h) (cb.clocks k h) (clock_rows k h))

      requests_pass : (i : ℕ) → i < 16 → request_test i ≡ true
      requests_pass i h =
          rw (request-in a i empty_request h, request-in b i empty_request h)
          (request_same (get_or a (161 + i) []) (get_or b (161 + i) []) (ca.shared.requests i h) (cb.shared.requests i h)
          (words (161 + i) (omega arith)))

      fields_same : same_state (state_from a f) (state_from b g) ≡ true
      fields_same =
          let n = word_at (get_or a 160 []) (get_or b 160 []) (words 160 (omega arith)) in
          state_places
          ∙ rw (
            every_from slot_test 16 slots_pass,
            every_from request_test 16 requests_pass,
            n 0 (omega arith),
            n 1 (omega arith),
            n 2 (omega arith),
            n 3 (omega arith),
          )

    module _ (h : same_state (state_from a f) (state_from b g) ≡ true) where
      parts : (i : ℕ) → get_or state_fields i true ≡ true
      parts = each_of state_fields (sym state_places ∙ h)

      clock_there : (k : ℕ) → k < 16 → SameInRows (part_at 10 k a) (part_at 10 k b) (part_at 25 k f) (part_at 25 k g)
      clock_there k l =
          rows_same (part_at 10 k a) (part_at 10 k b) (part_at 25 k f) (part_at 25 k g) (ca.clocks k l) (cb.clocks k l)
          (rw (slot-at a f k l, slot-at b g k l) at (every_at slot_test 16 k (parts 0) l))

      request_there : (i : ℕ) → i < 16 → words_at (161 + i) ≡ true
      request_there i l =
          request_row (get_or a (161 + i) []) (get_or b (161 + i) []) (ca.shared.requests i l) (cb.shared.requests i l)
          (rw (request-in a i empty_request l, request-in b i empty_request l) at (every_at request_test 16 i (parts 1) l))

      counts_there : words_at 160 ≡ true
      counts_there =
          counts_row (get_or a 160 []) (get_or b 160 []) ca.shared.counts cb.shared.counts (parts 2) (parts 3) (parts 4)
          (parts 5)

      pub words_there : (r : ℕ) → r < 177 → words_at r ≡ true
      words_there r l =
          by_test (ltb r 160)
          (λ q.
          let k = r / 10 in
          let m = mod-lt r {m = 10} (omega arith) in
          let e : r ≡ 10 * k + r % 10 = omega (arith, div-add-mod' r 10) in
          let there = (clock_there k (omega (arith, ltb-true r 160 q))).words (r % 10) m in
          rw e (rw (part_row 10 k (r % 10) a m, part_row 10 k (r % 10) b m) at there))
          (λ q.
          by_test (eqb r 160)
          (λ p. let e : r ≡ 160 = eqb-true r 160 p in rw e counts_there)
          (λ p.
          let i = r - 161 in
          let e : r ≡ 161 + i = omega (arith, ltb-false r 160 q, eqb-false r 160 p) in
          rw e (request_there i (omega arith))))

      pub floats_there : (r : ℕ) → r < 400 → floats_at r ≡ true
      floats_there r l =
          let k = r / 25 in
          let m = mod-lt r {m = 25} (omega arith) in
          let e : r ≡ 25 * k + r % 25 = omega (arith, div-add-mod' r 25) in
          let there = (clock_there k (omega arith)).floats (r % 25) m in
          rw e (rw (part_row 25 k (r % 25) f m, part_row 25 k (r % 25) g m) at there)

    -- number by number, as field by field
    pub same_rows : SizedState a f → (same_word_rows a b && same_float_rows f g) ≡ same_state (state_from a f) (state_from b g)
    unfolding same_word_rows same_float_rows
    same_rows s =
        rw (s.words, s.floats)
        (both_ways (every_below 177 words_at && every_below 400 floats_at) (same_state (state_from a f) (state_from b g))
        (λ h.
        let p = both_true (every_below 177 words_at) (every_below 400 floats_at) h in
        fields_same (λ r l. every_at words_at 177 r p.0 l) (λ r l. every_at floats_at 400 r p.1 l))
        (λ h. rw (every_from words_at 177 (words_there h), every_from floats_at 400 (floats_there h))))

    -- where what they are read as is equal, so is every number; floats by their bits, with all NaNs alike
    module _ (same : state_from a f ≡ state_from b g) where
      alike : same_state (state_from a f) (state_from b g) ≡ true
      alike = rw same (state_same (state_from b g))

      pub alike_in_every_word : (r i : ℕ) → r < 177 → i < 8 → get_or (get_or a r []) i 0 ≡ get_or (get_or b r []) i 0
      alike_in_every_word r i l m =
          eqb-true (get_or (get_or a r []) i 0) (get_or (get_or b r []) i 0) (word_at (get_or a r []) (get_or b r []) (words_there alike r l) i m)

      pub alike_in_every_float : (r i : ℕ) → r < 400 → i < 8 → same_float (get_or (get_or f r []) i nan) (get_or (get_or g r []) i nan) ≡ true
      alike_in_every_float r i l m = number_at (get_or f r []) (get_or g r []) (floats_there alike r l) i m
