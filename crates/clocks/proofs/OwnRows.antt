-- The rows of a clock that are no channel's: its settings, its schedule and its times.
use mathlib.Core.Path.{◌≡◌, refl, ◌∙◌}
use mathlib.Core.Bool.{true}
use mathlib.Core.List.{List, []}
use Prim.Native.Nat.{ℕ, ◌+◌, ◌*◌, ◌<◌, ◌≤◌}
use native.Mathlib.Omega.{arith}
use lib.Ieee.{Float}
use lib.ListN.{length, get_or, set, length-set}
use lib.Seq.{get_or-set_same, get_or-set_other}
use Rattle.clocks.specs.Clocks.{policy_of, with_channels}
use Rattle.clocks.specs.Layout.{WordRows, FloatRows, flag_from, byte_from, channel_at, clock_of, clock_from, present_in}
use Rattle.clocks.specs.Layout.{coded_settings, coded_schedule, coded_times, coded_channel, Coded, Sized, Leaves}
use Rattle.clocks.proofs.Tables.{table_same}

-- where no row of a channel is changed, no channel is
module _ (w w' : WordRows) (f f' : FloatRows)
    (words : (r : ℕ) → 2 ≤ r → get_or w' r [] ≡ get_or w r [])
    (floats : (r : ℕ) → 1 ≤ r → get_or f' r [] ≡ get_or f r []) where
  channel_same : (j : ℕ) → channel_at w' f' j ≡ channel_at w f j
  channel_same j =
      rw (
        words (2 + j) (omega arith),
        floats (1 + 3 * j) (omega arith),
        floats (2 + 3 * j) (omega arith),
        floats (3 + 3 * j) (omega arith),
      )

  pub own_clock : clock_from w' f' ≡ clock_of (get_or w' 0 []) (get_or w' 1 []) (get_or f' 0 []) (clock_from w f).channels
  unfolding clock_from clock_of
  own_clock = rw (table_same 8 (λ j. channel_at w f j) (λ j. channel_at w' f' j) (λ j h. channel_same j))

  pub own_coded : coded_settings (get_or w' 0 []) ≡ true → coded_schedule (get_or w' 1 []) ≡ true → coded_times (get_or f' 0 []) ≡ true
      → ((j : ℕ) → j < 8 → coded_channel (get_or w (2 + j) []) (get_or f (1 + 3 * j) []) ≡ true)
      → Coded w' f'
  own_coded a b ts cs = record {
    settings = a;
    schedule = b;
    times = ts;
    channels = λ j h. rw (words (2 + j) (omega arith), floats (1 + 3 * j) (omega arith)) (cs j h);
  }

-- all three rows stored
abbrev pub own_words : WordRows → List ℕ → List ℕ → WordRows
own_words w a b = set (set w 0 a) 1 b

module _ (w : WordRows) (f : FloatRows) (sized : Sized w f) (a b : List ℕ) (ts : List Float) where
  abbrev w' : WordRows
  w' = own_words w a b

  settings_there : get_or w' 0 [] ≡ a
  settings_there =
      get_or-set_other (set w 0 a) 1 0 b [] (λ e. omega arith) ∙ get_or-set_same w 0 a [] (omega (arith, sized.words))

  schedule_there : get_or w' 1 [] ≡ b
  schedule_there = get_or-set_same (set w 0 a) 1 b [] (omega (arith, sized.words, length-set w 0 a))

  times_there : get_or (set f 0 ts) 0 [] ≡ ts
  times_there = get_or-set_same f 0 ts [] (omega (arith, sized.floats))

  words_beside : (r : ℕ) → 2 ≤ r → get_or w' r [] ≡ get_or w r []
  words_beside r h =
      get_or-set_other (set w 0 a) 1 r b [] (λ e. omega arith) ∙ get_or-set_other w 0 r a [] (λ e. omega arith)

  floats_beside : (r : ℕ) → 1 ≤ r → get_or (set f 0 ts) r [] ≡ get_or f r []
  floats_beside r h = get_or-set_other f 0 r ts [] (λ e. omega arith)

  pub own_stored : clock_from w' (set f 0 ts) ≡ clock_of a b ts (clock_from w f).channels
  own_stored =
      rw (settings_there, schedule_there, times_there) at (own_clock w w' f (set f 0 ts) words_beside floats_beside)

  pub own_present : present_in w' ≡ flag_from (get_or a 0 0)
  own_present = rw settings_there

  pub own_stored_coded : coded_settings a ≡ true → coded_schedule b ≡ true → coded_times ts ≡ true
      → ((j : ℕ) → j < 8 → coded_channel (get_or w (2 + j) []) (get_or f (1 + 3 * j) []) ≡ true)
      → Coded w' (set f 0 ts)
  own_stored_coded x y z cs =
      own_coded w w' f (set f 0 ts) words_beside floats_beside (rw settings_there x) (rw schedule_there y) (rw times_there z) cs

-- ---- settings as they are read

pub policy_in : (w : WordRows) (f : FloatRows) → (clock_from w f).policy ≡ policy_of (byte_from (get_or (get_or w 0 []) 5 0))
unfolding clock_from clock_of
policy_in w f = refl

pub count_in : (w : WordRows) (f : FloatRows) → (clock_from w f).channel_count ≡ get_or (get_or w 0 []) 7 0
unfolding clock_from clock_of
count_in w f = refl

-- ---- the number of channels used, stored

module _ (w : WordRows) (f : FloatRows) (ten : length w ≡ 10) (row : List ℕ) (n : ℕ) (counted : get_or row 7 0 ≡ n)
    (kept : (i : ℕ) → (i ≡ 7 → ⊥) → get_or row i 0 ≡ get_or (get_or w 0 []) i 0) where
  there : get_or (set w 0 row) 0 [] ≡ row
  there = get_or-set_same w 0 row [] (omega arith)

  beside : (r : ℕ) → 1 ≤ r → get_or (set w 0 row) r [] ≡ get_or w r []
  beside r h = get_or-set_other w 0 r row [] (λ e. omega arith)

  count_clock : clock_from (set w 0 row) f ≡ with_channels (clock_from w f) (clock_from w f).channels n
  unfolding clock_from clock_of
  count_clock =
      rw (own_clock w (set w 0 row) f f (λ r h. beside r (omega arith)) (λ r h. refl), there, beside 1 (omega arith))
      (rw (
        counted,
        kept 1 (λ e. omega arith),
        kept 2 (λ e. omega arith),
        kept 3 (λ e. omega arith),
        kept 4 (λ e. omega arith),
        kept 5 (λ e. omega arith),
        kept 6 (λ e. omega arith),
      ))

  settings_coded : coded_settings (get_or w 0 []) ≡ true → coded_settings row ≡ true
  unfolding coded_settings
  settings_coded h =
      rw (
        kept 0 (λ e. omega arith),
        kept 2 (λ e. omega arith),
        kept 4 (λ e. omega arith),
        kept 5 (λ e. omega arith),
        kept 6 (λ e. omega arith),
      )
      h

  count_coded : Coded w f → Coded (set w 0 row) f
  count_coded h =
      own_coded w (set w 0 row) f f (λ r l. beside r (omega arith)) (λ r l. refl)
      (rw there (settings_coded h.settings)) (rw (beside 1 (omega arith)) h.schedule) h.times h.channels

  pub count_stored : Leaves w f (set w 0 row) f (with_channels (clock_from w f) (clock_from w f).channels n)
  count_stored = record { clock = count_clock; present = rw (there, kept 0 (λ e. omega arith)); coded = count_coded }
