-- The rows of an opened state: zero, but for the scale of each clock.
use mathlib.Core.Path.{◌≡◌, refl, ◌∙◌, ap}
use mathlib.Core.List.{[]}
use mathlib.Core.Bool.{true}
use Prim.Native.Nat.{ℕ, ◌+◌, ◌*◌, ◌<◌}
use native.Mathlib.Omega.{arith}
use borrow.Author.Tests.{eqb-true, eqb-false}
use lib.Dec.{eqb}
use lib.Ieee.{to_bits, le}
use lib.ListN.{length, get_or, set, drop, replicate, length-set, length-replicate, get_or-replicate}
use lib.Seq.{get_or-set_same, get_or-set_other, get_or-take, get_or-drop}
use Rattle.hazards.specs.Floats.{zero_bits}
use Rattle.hazards.proofs.Cases.{by_test}
use Rattle.clocks.specs.Channels.{empty_channel}
use Rattle.clocks.specs.Clocks.{new_clock, SurvivalClock}
use Rattle.clocks.specs.Layout.{WordRows, FloatRows, table, clock_of, clock_from, coded_settings, coded_schedule, coded_times}
use Rattle.clocks.proofs.ClearedRows.{zero_words, zero_floats, Cleared, coded_there, cleared-all}
use Rattle.clocks.proofs.Tables.{table_same}
use Rattle.engine.specs.State.{empty_request, empty_slot}
use Rattle.engine.specs.Opening.{opened_shared, opened_state}
use Rattle.engine.specs.StateRows.{part_at, slot_of, slot_from, request_from, shared_of, shared_from, state_from, coded_counts, coded_request}
use Rattle.engine.specs.StateRows.{CodedState}
use Rattle.engine.specs.OpeningInternals.{opened_times, OpenedFloats}

-- ---- the scales put, one clock after another

pub scales_none : (f : FloatRows) → f ≡ replicate 400 zero_floats → OpenedFloats 0 f
scales_none f e = record {
  rows = ap length e ∙ length-replicate 400 zero_floats;
  times = λ k h. absurd (omega arith);
  zeros = λ k r hk a b. ap (λ (l : FloatRows). get_or l (25 * k + r) []) e ∙ get_or-replicate 400 (25 * k + r) zero_floats [] (omega arith);
}

pub scales_next : (n i : ℕ) (f : FloatRows) → i ≡ 25 * n → n < 16 → OpenedFloats n f → OpenedFloats (n + 1) (set f i opened_times)
scales_next n i f e h o = record {
  rows = length-set f i opened_times ∙ o.rows;
  times =
      λ k hk.
      by_test (eqb k n)
      (λ q.
      let same : 25 * k ≡ i = omega (arith, eqb-true k n q) in
      rw same (get_or-set_same f i opened_times [] (omega (arith, o.rows))))
      (λ q.
      let apart : k ≡ n → ⊥ = eqb-false k n q in
      get_or-set_other f i (25 * k) opened_times [] (λ p. apart (omega arith)) ∙ o.times k (omega arith));
  zeros =
      λ k r hk a b.
      get_or-set_other f i (25 * k + r) opened_times [] (λ p. absurd (omega arith)) ∙ o.zeros k r hk a b;
}

-- ---- what rows of zero are read as

settings_zero : coded_settings zero_words ≡ true
unfolding coded_settings
settings_zero = refl

schedule_zero : coded_schedule zero_words ≡ true
unfolding coded_schedule
schedule_zero = refl

times_opened : coded_times opened_times ≡ true
unfolding coded_times zero_bits to_bits
times_opened = refl

counts_zero : coded_counts zero_words ≡ true
unfolding coded_counts
counts_zero = refl

request_coded : coded_request zero_words ≡ true
unfolding coded_request
request_coded = refl

request_zero : request_from zero_words ≡ empty_request
unfolding request_from
request_zero = refl

-- ---- the opened state

module _ (w : WordRows) (f : FloatRows) (e : w ≡ replicate 177 zero_words) (o : OpenedFloats 16 f) where
  row : (r : ℕ) → r < 177 → get_or w r [] ≡ zero_words
  row r h = ap (λ (l : WordRows). get_or l r []) e ∙ get_or-replicate 177 r zero_words [] h

  clock_words : (k r : ℕ) → k < 16 → r < 10 → get_or (part_at 10 k w) r [] ≡ zero_words
  clock_words k r hk hr = get_or-take 10 (drop (10 * k) w) r [] hr ∙ (get_or-drop (10 * k) w r [] ∙ row (10 * k + r) (omega arith))

  clock_times : (k : ℕ) → k < 16 → get_or (part_at 25 k f) 0 [] ≡ opened_times
  clock_times k hk =
      let first : 25 * k + 0 ≡ 25 * k = omega arith in
      get_or-take 25 (drop (25 * k) f) 0 [] (omega arith) ∙ (get_or-drop (25 * k) f 0 [] ∙ rw first (o.times k hk))

  clock_zeros : (k r : ℕ) → k < 16 → 0 < r → r < 25 → get_or (part_at 25 k f) r [] ≡ zero_floats
  clock_zeros k r hk a b = get_or-take 25 (drop (25 * k) f) r [] b ∙ (get_or-drop (25 * k) f r [] ∙ o.zeros k r hk a b)

  blank : (k : ℕ) → k < 16 → Cleared (part_at 10 k w) (part_at 25 k f) (part_at 10 k w) (part_at 25 k f)
  blank k hk = record {
    settings = refl;
    schedule = refl;
    times = refl;
    words = λ r a b. clock_words k r hk (omega arith);
    floats = λ r a b. clock_zeros k r hk (omega arith) (omega arith);
  }

  no_channels : (k : ℕ) → k < 16 → (clock_from (part_at 10 k w) (part_at 25 k f)).channels ≡ replicate 8 empty_channel
  no_channels k hk =
      ap (λ (c : SurvivalClock). c.channels)
      (cleared-all (part_at 10 k w) (part_at 10 k w) (part_at 25 k f) (part_at 25 k f) (blank k hk)).clock

  slot_empty : (k : ℕ) → k < 16 → slot_from w f k ≡ empty_slot
  unfolding slot_of clock_from clock_of new_clock le
  slot_empty k hk = rw (clock_words k 0 hk (omega arith), clock_words k 1 hk (omega arith), clock_times k hk, no_channels k hk)

  shared_opened : shared_from w ≡ opened_shared
  unfolding shared_from shared_of table
  shared_opened =
      rw (
        row 160 (omega arith),
        table_same 16 (λ (i : ℕ). empty_request) (λ (i : ℕ). request_from (get_or w (161 + i) []))
            (λ i h. ap request_from (row (161 + i) (omega arith)) ∙ request_zero),
      )

  pub rows_opened : state_from w f ≡ opened_state
  unfolding state_from opened_state table
  rows_opened =
      let slots : table 16 (λ k. slot_from w f k) ≡ replicate 16 empty_slot =
      table_same 16 (λ (k : ℕ). empty_slot) (λ (k : ℕ). slot_from w f k) slot_empty in
      λ i. record { slots = slots i; shared = shared_opened i }

  pub rows_coded : CodedState w f
  rows_coded = record {
    clocks =
        λ k hk. record {
          settings = rw (clock_words k 0 hk (omega arith)) settings_zero;
          schedule = rw (clock_words k 1 hk (omega arith)) schedule_zero;
          times = rw (clock_times k hk) times_opened;
          channels = coded_there (part_at 10 k w) (part_at 10 k w) (part_at 25 k f) (part_at 25 k f) (blank k hk);
        };
    shared = record {
      counts = rw (row 160 (omega arith)) counts_zero;
      requests = λ i h. rw (row (161 + i) (omega arith)) request_coded;
    };
  }
