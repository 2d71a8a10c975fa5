-- Two clocks in coded rows are the same in every field exactly where their rows are the same in every number.
use mathlib.Core.Path.{◌≡◌, refl, sym, ◌∙◌}
use mathlib.Core.Bool.{Bool, true, not, ◌&&◌, ◌||◌}
use mathlib.Core.List.{List, [], ◌∷◌}
use Prim.Native.Nat.{ℕ, zero, suc, ◌+◌, ◌*◌, ◌/◌, ◌%◌, ◌<◌}
use native.Mathlib.Nat.{div-add-mod', mod-lt}
use native.Mathlib.Omega.{arith}
use borrow.Author.Tests.{eqb-true, eqb-false}
use lib.Dec.{eqb, ltb}
use lib.Ieee.{Float, nan}
use lib.ListN.{get_or}
use Rattle.hazards.specs.Floats.{zero_bits}
use Rattle.hazards.specs.Rates.{kinds}
use Rattle.hazards.proofs.Cases.{by_test, both_true}
use Rattle.clocks.specs.Channels.{empty_channel}
use Rattle.clocks.specs.Layout.{WordRows, FloatRows, every_below, channel_from, channel_at, clock_of, clock_from, present_in}
use Rattle.clocks.specs.Layout.{is_flag, is_u32, is_byte, spare_zero}
use Rattle.clocks.specs.Layout.{coded_settings, coded_schedule, coded_times, coded_words, coded_numbers, coded_channel, Coded}
use Rattle.clocks.proofs.EveryBelow.{every_at, every_from}
use Rattle.clocks.proofs.RowLaws.{channel-in}
use Rattle.engine.specs.Comparison.{same_flag, same_float, same_intervals, same_channel, same_settings, same_channels, same_schedule}
use Rattle.engine.specs.Comparison.{same_clock, same_slot}
use Rattle.engine.specs.ComparisonInternals.{same_word_row, same_float_row}
use Rattle.engine.specs.StateRows.{slot_of}
use Rattle.engine.proofs.SameWords.{all_of, each_of, every_eight, flag_as, u32_as, byte_as, policy_as, tie_as, zero-floats, hazard_as}

-- ---- the numbers of two rows

abbrev pub same_word : List ℕ → List ℕ → ℕ → Bool
same_word a b i = eqb (get_or a i 0) (get_or b i 0)

abbrev pub same_number : List Float → List Float → ℕ → Bool
same_number a b i = same_float (get_or a i nan) (get_or b i nan)

pub zeros_at : (a b : List ℕ) (i : ℕ) → eqb (get_or a i 0) 0 ≡ true → eqb (get_or b i 0) 0 ≡ true → same_word a b i ≡ true
zeros_at a b i h k = rw (eqb-true (get_or a i 0) 0 h, eqb-true (get_or b i 0) 0 k)

pub word_at : (a b : List ℕ) → same_word_row a b ≡ true → (i : ℕ) → i < 8 → same_word a b i ≡ true
unfolding same_word_row
word_at a b h i l = every_at (same_word a b) 8 i h l

pub number_at : (a b : List Float) → same_float_row a b ≡ true → (i : ℕ) → i < 8 → same_number a b i ≡ true
unfolding same_float_row
number_at a b h i l = every_at (same_number a b) 8 i h l

-- ---- the tests of coded rows, in their order

abbrev settings_tests : List ℕ → List Bool
settings_tests a = is_flag (get_or a 0 0) ∷ is_flag (get_or a 2 0) ∷ is_u32 (get_or a 4 0) ∷ ltb (get_or a 5 0) 2 ∷ ltb (get_or a 6 0) 3 ∷ []

abbrev schedule_tests : List ℕ → List Bool
schedule_tests b =
    is_flag (get_or b 0 0)
    ∷ is_flag (get_or b 2 0)
    ∷ is_u32 (get_or b 3 0)
    ∷ is_flag (get_or b 4 0)
    ∷ is_byte (get_or b 5 0)
    ∷ eqb (get_or b 6 0) 0
    ∷ eqb (get_or b 7 0) 0
    ∷ []

abbrev word_tests : List ℕ → List Bool
word_tests ws =
    is_u32 (get_or ws 0 0)
    ∷ is_u32 (get_or ws 1 0)
    ∷ ltb (get_or ws 2 0) kinds
    ∷ eqb (get_or ws 4 0) 0
    ∷ eqb (get_or ws 5 0) 0
    ∷ eqb (get_or ws 6 0) 0
    ∷ eqb (get_or ws 7 0) 0
    ∷ []

abbrev spare_tests : List Float → List Bool
spare_tests ns =
    zero_bits (get_or ns 4 nan) ∷ zero_bits (get_or ns 5 nan) ∷ zero_bits (get_or ns 6 nan) ∷ zero_bits (get_or ns 7 nan) ∷ []

-- ---- a channel

module _ (ws vs : List ℕ) (ns ms ends ends' rates rates' : List Float) (c : coded_channel ws ns ≡ true) (d : coded_channel vs ms ≡ true) where
  abbrev w : ℕ → Bool
  w i = same_word ws vs i

  abbrev n : ℕ → Bool
  n i = same_number ns ms i

  words_coded : (coded_words ws ≡ true) × (coded_words vs ≡ true)
  words_coded = (
    (both_true (coded_words ws) (coded_numbers (get_or ws 2 0) ns) c).0,
    (both_true (coded_words vs) (coded_numbers (get_or vs 2 0) ms) d).0,
  )

  numbers_coded : (coded_numbers (get_or ws 2 0) ns ≡ true) × (coded_numbers (get_or vs 2 0) ms ≡ true)
  numbers_coded = (
    (both_true (coded_words ws) (coded_numbers (get_or ws 2 0) ns) c).1,
    (both_true (coded_words vs) (coded_numbers (get_or vs 2 0) ms) d).1,
  )

  abbrev pair_tests : List Bool
  pair_tests = w 3 ∷ same_float_row ends ends' ∷ same_float_row rates rates' ∷ []

  abbrev channel_tests : List Bool
  channel_tests = w 0 ∷ w 1 ∷ (w 2 && n 3) ∷ all_of pair_tests ∷ n 0 ∷ n 1 ∷ n 2 ∷ []

  -- the fields, by the places that they are read from
  channel_places : same_channel (channel_from ws ns ends rates) (channel_from vs ms ends' rates') ≡ all_of channel_tests
  unfolding same_channel same_intervals channel_from coded_words coded_numbers same_float_row
  channel_places =
      let a = each_of (word_tests ws) words_coded.0 in
      let b = each_of (word_tests vs) words_coded.1 in
      rw (
        u32_as (get_or ws 0 0) (get_or vs 0 0) (a 0) (b 0),
        u32_as (get_or ws 1 0) (get_or vs 1 0) (a 1) (b 1),
        hazard_as (get_or ws 2 0) (get_or vs 2 0) (get_or ns 3 nan) (get_or ms 3 nan) (a 2) (b 2)
            (both_true (not (eqb (get_or ws 2 0) 0) || zero_bits (get_or ns 3 nan)) (spare_zero ns) numbers_coded.0).0
            (both_true (not (eqb (get_or vs 2 0) 0) || zero_bits (get_or ms 3 nan)) (spare_zero ms) numbers_coded.1).0,
      )

  pub channel_same : same_word_row ws vs ≡ true → same_float_row ns ms ≡ true → same_float_row ends ends' ≡ true
      → same_float_row rates rates' ≡ true → same_channel (channel_from ws ns ends rates) (channel_from vs ms ends' rates') ≡ true
  channel_same a b e r =
      let x = word_at ws vs a in
      let y = number_at ns ms b in
      channel_places
      ∙ rw (
        x 0 (omega arith),
        x 1 (omega arith),
        x 2 (omega arith),
        y 3 (omega arith),
        x 3 (omega arith),
        e,
        r,
        y 0 (omega arith),
        y 1 (omega arith),
        y 2 (omega arith),
      )

  words_same : w 0 ≡ true → w 1 ≡ true → w 2 ≡ true → w 3 ≡ true → same_word_row ws vs ≡ true
  unfolding same_word_row coded_words
  words_same e₀ e₁ e₂ e₃ =
      let a = each_of (word_tests ws) words_coded.0 in
      let b = each_of (word_tests vs) words_coded.1 in
      every_eight w e₀ e₁ e₂ e₃ (zeros_at ws vs 4 (a 3) (b 3)) (zeros_at ws vs 5 (a 4) (b 4))
      (zeros_at ws vs 6 (a 5) (b 5)) (zeros_at ws vs 7 (a 6) (b 6))

  numbers_same : n 0 ≡ true → n 1 ≡ true → n 2 ≡ true → n 3 ≡ true → same_float_row ns ms ≡ true
  unfolding same_float_row coded_numbers
  numbers_same e₀ e₁ e₂ e₃ =
      let a =
      each_of (spare_tests ns) (both_true (not (eqb (get_or ws 2 0) 0) || zero_bits (get_or ns 3 nan)) (spare_zero ns) numbers_coded.0).1 in
      let b =
      each_of (spare_tests ms) (both_true (not (eqb (get_or vs 2 0) 0) || zero_bits (get_or ms 3 nan)) (spare_zero ms) numbers_coded.1).1 in
      every_eight n e₀ e₁ e₂ e₃ (zero-floats _ _ (a 0) (b 0)) (zero-floats _ _ (a 1) (b 1)) (zero-floats _ _ (a 2) (b 2))
      (zero-floats _ _ (a 3) (b 3))

  pub channel_rows : same_channel (channel_from ws ns ends rates) (channel_from vs ms ends' rates') ≡ true
      → (same_word_row ws vs ≡ true) × (same_float_row ns ms ≡ true) × (same_float_row ends ends' ≡ true) × (same_float_row rates rates' ≡ true)
  channel_rows h =
      let t = each_of channel_tests (sym channel_places ∙ h) in
      let kind = both_true (w 2) (n 3) (t 2) in
      let pairs = each_of pair_tests (t 3) in
      (words_same (t 0) (t 1) kind.0 (pairs 0), numbers_same (t 4) (t 5) (t 6) kind.1, pairs 1, pairs 2)

-- ---- a clock and its place

-- the rows of two clocks, one by one
pub record SameInRows (w v : WordRows) (f g : FloatRows) : Type 0 where
  pub words : (r : ℕ) → r < 10 → same_word_row (get_or w r []) (get_or v r []) ≡ true
  pub floats : (r : ℕ) → r < 25 → same_float_row (get_or f r []) (get_or g r []) ≡ true

module _ (w v : WordRows) (f g : FloatRows) (c : Coded w f) (d : Coded v g) where
  abbrev x : ℕ → ℕ → Bool
  x r i = same_word (get_or w r []) (get_or v r []) i

  abbrev y : ℕ → Bool
  y i = same_number (get_or f 0 []) (get_or g 0 []) i

  abbrev channel_test : ℕ → Bool
  channel_test j = same_channel (get_or (clock_from w f).channels j empty_channel) (get_or (clock_from v g).channels j empty_channel)

  -- the fields, by the places that they are read from
  abbrev settings_fields : List Bool
  settings_fields = x 0 1 ∷ x 0 2 ∷ (x 0 3 && x 0 4) ∷ x 0 5 ∷ x 0 6 ∷ y 0 ∷ []

  abbrev winner_fields : List Bool
  winner_fields = x 1 2 ∷ x 1 3 ∷ y 1 ∷ x 1 5 ∷ []

  abbrev schedule_fields : List Bool
  schedule_fields = (x 1 0 && x 1 1) ∷ all_of winner_fields ∷ x 1 4 ∷ y 2 ∷ []

  abbrev slot_fields : List Bool
  slot_fields = x 0 0 ∷ all_of settings_fields ∷ (x 0 7 && every_below 8 channel_test) ∷ all_of schedule_fields ∷ []

  settings_places : same_settings (clock_from w f) (clock_from v g) ≡ all_of settings_fields
  unfolding same_settings clock_from clock_of coded_settings
  settings_places =
      let a = each_of (settings_tests (get_or w 0 [])) c.settings in
      let b = each_of (settings_tests (get_or v 0 [])) d.settings in
      rw (
        flag_as (get_or (get_or w 0 []) 2 0) (get_or (get_or v 0 []) 2 0) (a 1) (b 1),
        u32_as (get_or (get_or w 0 []) 4 0) (get_or (get_or v 0 []) 4 0) (a 2) (b 2),
        policy_as (get_or (get_or w 0 []) 5 0) (get_or (get_or v 0 []) 5 0) (a 3) (b 3),
        tie_as (get_or (get_or w 0 []) 6 0) (get_or (get_or v 0 []) 6 0) (a 4) (b 4),
      )

  schedule_places : same_schedule (clock_from w f) (clock_from v g) ≡ all_of schedule_fields
  unfolding same_schedule clock_from clock_of coded_schedule
  schedule_places =
      let a = each_of (schedule_tests (get_or w 1 [])) c.schedule in
      let b = each_of (schedule_tests (get_or v 1 [])) d.schedule in
      rw (
        flag_as (get_or (get_or w 1 []) 0 0) (get_or (get_or v 1 []) 0 0) (a 0) (b 0),
        flag_as (get_or (get_or w 1 []) 2 0) (get_or (get_or v 1 []) 2 0) (a 1) (b 1),
        u32_as (get_or (get_or w 1 []) 3 0) (get_or (get_or v 1 []) 3 0) (a 2) (b 2),
        flag_as (get_or (get_or w 1 []) 4 0) (get_or (get_or v 1 []) 4 0) (a 3) (b 3),
        byte_as (get_or (get_or w 1 []) 5 0) (get_or (get_or v 1 []) 5 0) (a 4) (b 4),
      )

  present_place : same_flag (present_in w) (present_in v) ≡ x 0 0
  unfolding coded_settings
  present_place =
      flag_as (get_or (get_or w 0 []) 0 0) (get_or (get_or v 0 []) 0 0) (each_of (settings_tests (get_or w 0 [])) c.settings 0)
      (each_of (settings_tests (get_or v 0 [])) d.settings 0)

  count_place : eqb (clock_from w f).channel_count (clock_from v g).channel_count ≡ x 0 7
  unfolding clock_from clock_of
  count_place = refl

  slot_places : same_slot (slot_of w f) (slot_of v g) ≡ all_of slot_fields
  unfolding same_slot same_clock same_channels slot_of
  slot_places = rw (present_place, settings_places, count_place, schedule_places)

  test_at : (j : ℕ) → j < 8 → channel_test j ≡ same_channel (channel_at w f j) (channel_at v g j)
  test_at j l = rw (channel-in w f j empty_channel l, channel-in v g j empty_channel l)

  channel-from : SameInRows w v f g → (j : ℕ) → j < 8 → channel_test j ≡ true
  channel-from s j l =
      test_at j l
      ∙ channel_same (get_or w (2 + j) []) (get_or v (2 + j) []) (get_or f (1 + 3 * j) []) (get_or g (1 + 3 * j) []) (get_or f (2 + 3 * j) [])
      (get_or g (2 + 3 * j) []) (get_or f (3 + 3 * j) []) (get_or g (3 + 3 * j) []) (c.channels j l) (d.channels j l)
      (s.words (2 + j) (omega arith)) (s.floats (1 + 3 * j) (omega arith)) (s.floats (2 + 3 * j) (omega arith))
      (s.floats (3 + 3 * j) (omega arith))

  pub slot_same : SameInRows w v f g → same_slot (slot_of w f) (slot_of v g) ≡ true
  slot_same s =
      let a = word_at (get_or w 0 []) (get_or v 0 []) (s.words 0 (omega arith)) in
      let b = word_at (get_or w 1 []) (get_or v 1 []) (s.words 1 (omega arith)) in
      let t = number_at (get_or f 0 []) (get_or g 0 []) (s.floats 0 (omega arith)) in
      slot_places
      ∙ rw (
        a 0 (omega arith),
        a 1 (omega arith),
        a 2 (omega arith),
        a 3 (omega arith),
        a 4 (omega arith),
        a 5 (omega arith),
        a 6 (omega arith),
        t 0 (omega arith),
        a 7 (omega arith),
        every_from channel_test 8 (channel-from s),
        b 0 (omega arith),
        b 1 (omega arith),
        b 2 (omega arith),
        b 3 (omega arith),
        t 1 (omega arith),
        b 5 (omega arith),
        b 4 (omega arith),
        t 2 (omega arith),
      )

  module _ (h : same_slot (slot_of w f) (slot_of v g) ≡ true) where
    parts : (i : ℕ) → get_or slot_fields i true ≡ true
    parts = each_of slot_fields (sym slot_places ∙ h)

    settings_parts : (i : ℕ) → get_or settings_fields i true ≡ true
    settings_parts = each_of settings_fields (parts 1)

    schedule_parts : (i : ℕ) → get_or schedule_fields i true ≡ true
    schedule_parts = each_of schedule_fields (parts 3)

    winner_parts : (i : ℕ) → get_or winner_fields i true ≡ true
    winner_parts = each_of winner_fields (schedule_parts 1)

    channels_parts : (x 0 7 ≡ true) × (every_below 8 channel_test ≡ true)
    channels_parts = both_true (x 0 7) (every_below 8 channel_test) (parts 2)

    settings_row : same_word_row (get_or w 0 []) (get_or v 0 []) ≡ true
    unfolding same_word_row
    settings_row =
        let entity = both_true (x 0 3) (x 0 4) (settings_parts 2) in
        every_eight (x 0) (parts 0) (settings_parts 0) (settings_parts 1) entity.0 entity.1 (settings_parts 3) (settings_parts 4)
        channels_parts.0

    schedule-row : same_word_row (get_or w 1 []) (get_or v 1 []) ≡ true
    unfolding same_word_row coded_schedule
    schedule-row =
        let event = both_true (x 1 0) (x 1 1) (schedule_parts 0) in
        let a = each_of (schedule_tests (get_or w 1 [])) c.schedule in
        let b = each_of (schedule_tests (get_or v 1 [])) d.schedule in
        every_eight (x 1) event.0 event.1 (winner_parts 0) (winner_parts 1) (schedule_parts 2) (winner_parts 3)
        (zeros_at (get_or w 1 []) (get_or v 1 []) 6 (a 5) (b 5))
        (zeros_at (get_or w 1 []) (get_or v 1 []) 7 (a 6) (b 6))

    times-row : same_float_row (get_or f 0 []) (get_or g 0 []) ≡ true
    unfolding same_float_row coded_times
    times-row =
        let a = each_of (zero_bits (get_or (get_or f 0 []) 3 nan) ∷ spare_tests (get_or f 0 [])) c.times in
        let b = each_of (zero_bits (get_or (get_or g 0 []) 3 nan) ∷ spare_tests (get_or g 0 [])) d.times in
        every_eight y (settings_parts 5) (winner_parts 2) (schedule_parts 3) (zero-floats _ _ (a 0) (b 0)) (zero-floats _ _ (a 1) (b 1))
        (zero-floats _ _ (a 2) (b 2)) (zero-floats _ _ (a 3) (b 3)) (zero-floats _ _ (a 4) (b 4))

    channel_there : (j : ℕ) → j < 8
        → (same_word_row (get_or w (2 + j) []) (get_or v (2 + j) []) ≡ true)
        × (same_float_row (get_or f (1 + 3 * j) []) (get_or g (1 + 3 * j) []) ≡ true)
        × (same_float_row (get_or f (2 + 3 * j) []) (get_or g (2 + 3 * j) []) ≡ true)
        × (same_float_row (get_or f (3 + 3 * j) []) (get_or g (3 + 3 * j) []) ≡ true)
    channel_there j l =
        channel_rows (get_or w (2 + j) []) (get_or v (2 + j) []) (get_or f (1 + 3 * j) []) (get_or g (1 + 3 * j) []) (get_or f (2 + 3 * j) [])
        (get_or g (2 + 3 * j) []) (get_or f (3 + 3 * j) []) (get_or g (3 + 3 * j) []) (c.channels j l) (d.channels j l)
        (sym (test_at j l) ∙ every_at channel_test 8 j channels_parts.1 l)

    words_there : (r : ℕ) → r < 10 → same_word_row (get_or w r []) (get_or v r []) ≡ true
    words_there zero l = settings_row
    words_there (suc zero) l = schedule-row
    words_there (suc (suc j)) l =
        let e : suc (suc j) ≡ 2 + j = omega arith in
        rw e (channel_there j (omega arith)).0

    floats_there : (r : ℕ) → r < 25 → same_float_row (get_or f r []) (get_or g r []) ≡ true
    floats_there zero l = times-row
    floats_there (suc r) l =
        let j = r / 3 in
        let m = mod-lt r {m = 3} (omega arith) in
        let e = div-add-mod' r 3 in
        let there = channel_there j (omega arith) in
        by_test (eqb (r % 3) 0)
        (λ q. let s : suc r ≡ 1 + 3 * j = omega (arith, eqb-true (r % 3) 0 q) in rw s there.1)
        (λ p.
        by_test (eqb (r % 3) 1)
        (λ q. let s : suc r ≡ 2 + 3 * j = omega (arith, eqb-true (r % 3) 1 q) in rw s there.2)
        (λ q. let s : suc r ≡ 3 + 3 * j = omega (arith, eqb-false (r % 3) 0 p, eqb-false (r % 3) 1 q) in rw s there.3))

    pub rows_same : SameInRows w v f g
    rows_same = record { words = words_there; floats = floats_there }
