-- A clock's rows and those after the clocks, kept aside and put back.
use mathlib.Core.Path.{◌≡◌, sym, ◌∙◌, ap}
use mathlib.Core.List.{[]}
use Prim.Native.Nat.{ℕ, ◌+◌, ◌*◌, ◌<◌}
use native.Mathlib.Omega.{arith}
use lib.ListN.{length, get_or, take, drop, length-drop}
use lib.Seq.{get_or-drop, take_all, length-take-le}
use Rattle.clocks.specs.Layout.{WordRows, FloatRows, Coded}
use Rattle.clocks.proofs.Tables.{table_same}
use Rattle.engine.specs.State.{slot_at, with_slot, ClockSlot, EngineState}
use Rattle.engine.specs.StateRows.{part_at, slot_of, request_from, shared_from, state_from, SizedState, CodedShared, CodedState}
use Rattle.engine.specs.KeptRows.{kept_slot, kept_shared, SizedKept, CodedKept}
use Rattle.engine.proofs.ListParts.{put, put-length, part_here, part_before}
use Rattle.engine.proofs.StateParts.{slot-at, clocks_kept, clocks_coded}
use Rattle.engine.proofs.CommandsInPlace.{words_lent, floats_lent, words-lent, floats-lent, slot_left, slot_left_coded}

-- ---- rows that end with the same seventeen

module _ (w kept : WordRows) (same : drop 10 kept ≡ drop 160 w) where
  row_same : (i : ℕ) → get_or kept (10 + i) [] ≡ get_or w (160 + i) []
  row_same i = sym (get_or-drop 10 kept i []) ∙ (ap (λ (l : WordRows). get_or l i []) same ∙ get_or-drop 160 w i [])

  request_row_same : (i : ℕ) → get_or kept (11 + i) [] ≡ get_or w (161 + i) []
  request_row_same i =
      let a : 11 + i ≡ 10 + (1 + i) = omega arith in
      let b : 161 + i ≡ 160 + (1 + i) = omega arith in
      rw (a, b) (row_same (1 + i))

  pub kept-shared : kept_shared kept ≡ shared_from w
  unfolding shared_from
  kept-shared =
      rw (
        row_same 0,
        table_same 16 (λ i. request_from (get_or w (161 + i) [])) (λ i. request_from (get_or kept (11 + i) [])) (λ i h. rw (request_row_same i)),
      )

  pub kept_coded : (f : FloatRows) → Coded (take 10 kept) f → CodedShared w → CodedKept kept f
  kept_coded f c h = record {
    clock = c;
    counts = rw (row_same 0) h.counts;
    requests = λ i l. rw (request_row_same i) (h.requests i l);
  }

  pub coded_again : (f : FloatRows) → CodedKept kept f → CodedShared w
  coded_again f h = record {
    counts = rw (← row_same 0) h.counts;
    requests = λ i l. rw (← request_row_same i) (h.requests i l);
  }

-- ---- kept aside, over what the rows held

module _ (w : WordRows) (f : FloatRows) (k : ℕ) (hk : k < 16) (sized : SizedState w f) (old : WordRows) (n : length old ≡ 27)
    (a b : WordRows) (y : FloatRows) (ea : a ≡ take (words_lent k) (drop (10 * k) w)) (eb : b ≡ take 17 (drop 160 w))
    (ey : y ≡ take (floats_lent k) (drop (25 * k) f)) where
  abbrev front : WordRows
  front = put old a 0 10

  abbrev pub kept_rows : WordRows
  kept_rows = put front b 10 17

  a_part : a ≡ part_at 10 k w
  a_part = rw (words-lent k) at ea

  y_part : y ≡ part_at 25 k f
  y_part = rw (floats-lent k) at ey

  a-length : length a ≡ 10
  a-length = ap length a_part ∙ length-take-le 10 (drop (10 * k) w) (omega (arith, length-drop (10 * k) w, sized.words))

  b-length : length b ≡ 17
  b-length = ap length eb ∙ length-take-le 17 (drop 160 w) (omega (arith, length-drop 160 w, sized.words))

  front_length : length front ≡ 27
  front_length = put-length old a 0 10 a-length (omega arith) ∙ n

  kept-length : length kept_rows ≡ 27
  kept-length = put-length front b 10 17 b-length (omega (arith, front_length)) ∙ front_length

  first_ten : take 10 kept_rows ≡ part_at 10 k w
  first_ten =
      part_before front b 10 17 b-length (omega (arith, front_length)) 0 10 (omega arith)
      ∙ (part_here old a 0 10 a-length (omega arith) ∙ a_part)

  last_rows : drop 10 kept_rows ≡ drop 160 w
  last_rows =
      sym (take_all 17 (drop 10 kept_rows) (omega (arith, length-drop 10 kept_rows, kept-length)))
      ∙ (part_here front b 10 17 b-length (omega (arith, front_length))
      ∙ (eb ∙ take_all 17 (drop 160 w) (omega (arith, length-drop 160 w, sized.words))))

  pub keeps_slot : kept_slot kept_rows y ≡ slot_at (state_from w f) k
  keeps_slot = rw (first_ten, y_part, slot-at w f k hk)

  pub keeps_shared : kept_shared kept_rows ≡ shared_from w
  keeps_shared = kept-shared w kept_rows last_rows

  pub keeps_coded : CodedState w f → CodedKept kept_rows y
  keeps_coded h = kept_coded w kept_rows last_rows y (rw (first_ten, y_part) (h.clocks k hk)) h.shared

-- ---- put back

module _ (w : WordRows) (f : FloatRows) (k : ℕ) (hk : k < 16) (sized : SizedState w f) (kept : WordRows) (y : FloatRows)
    (size : SizedKept kept y) (a b : WordRows) (x : FloatRows) (la : length a ≡ length (take (words_lent k) (drop (10 * k) w)))
    (lx : length x ≡ length (take (floats_lent k) (drop (25 * k) f))) (ea : a ≡ take 10 kept) (eb : b ≡ take 17 (drop 10 kept))
    (ex : x ≡ y) where
  abbrev w₁ : WordRows
  w₁ = put w a (10 * k) (words_lent k)

  abbrev w₂ : WordRows
  w₂ = put w₁ b 160 17

  abbrev f₁ : FloatRows
  f₁ = put f x (25 * k) (floats_lent k)

  lent : length (take (words_lent k) (drop (10 * k) w)) ≡ words_lent k
  lent = length-take-le (words_lent k) (drop (10 * k) w) (omega (arith, length-drop (10 * k) w, words-lent k, sized.words))

  w₁-length : length w₁ ≡ 177
  w₁-length = put-length w a (10 * k) (words_lent k) (la ∙ lent) (omega (arith, words-lent k, sized.words)) ∙ sized.words

  b_rows : length b ≡ 17
  b_rows = ap length eb ∙ length-take-le 17 (drop 10 kept) (omega (arith, length-drop 10 kept, size.words))

  w₂-length : length w₂ ≡ 177
  w₂-length = put-length w₁ b 160 17 b_rows (omega (arith, w₁-length)) ∙ w₁-length

  clocks_same : take 160 w₂ ≡ take 160 w₁
  clocks_same = part_before w₁ b 160 17 b_rows (omega (arith, w₁-length)) 0 160 (omega arith)

  rest_back : drop 10 kept ≡ drop 160 w₂
  rest_back =
      sym (take_all 17 (drop 10 kept) (omega (arith, length-drop 10 kept, size.words)))
      ∙ (sym eb
      ∙ (sym (part_here w₁ b 160 17 b_rows (omega (arith, w₁-length)))
      ∙ take_all 17 (drop 160 w₂) (omega (arith, length-drop 160 w₂, w₂-length))))

  slot_back : slot_of a x ≡ kept_slot kept y
  slot_back = rw (ea, ex)

  pub puts_back : state_from w₂ f₁ ≡ with_slot (state_from w f) k (kept_slot kept y) (kept_shared kept)
  puts_back =
      clocks_kept w₁ w₂ f₁ w₁-length w₂-length clocks_same (kept_shared kept) (sym (kept-shared w₂ kept rest_back))
      ∙ (ap (λ (s : EngineState). record { slots = s.slots; shared = kept_shared kept }) (slot_left w f k hk sized a x la lx)
      ∙ ap (λ (slot : ClockSlot). with_slot (state_from w f) k slot (kept_shared kept)) slot_back)

  pub puts_coded : CodedState w f → CodedKept kept y → CodedState w₂ f₁
  puts_coded h c =
      clocks_coded w₁ w₂ f₁ w₁-length w₂-length clocks_same (coded_again w₂ kept rest_back y c)
      (slot_left_coded w f k hk sized a x la lx h (rw (ea, ex) c.clock))
