-- A clock's schedule and times stored: the clock that is left.
use mathlib.Core.Path.{◌≡◌}
use mathlib.Core.Bool.{Bool, true, ◌&&◌}
use mathlib.Core.List.{List, [], ◌∷◌}
use Prim.Native.Nat.{ℕ, ◌+◌, ◌*◌, ◌<◌}
use native.Mathlib.Nat.{mod-eq_of_lt}
use native.Mathlib.Omega.{arith}
use borrow.Author.Tests.{lt-ltb}
use lib.Dec.{eqb}
use lib.Ieee.{Float, nan}
use lib.ListN.{get_or, set}
use lib.Seq.{get_or-set_same, get_or-set_other}
use Rattle.std.specs.Int.{from_bool}
use Rattle.hazards.proofs.Cases.{both_true}
use Rattle.clocks.specs.Clocks.{with_schedule}
use Rattle.clocks.specs.Layout.{WordRows, FloatRows, channel_at, channels_from, clock_of, clock_from, Sized, Leaves, Coded}
use Rattle.clocks.specs.Layout.{is_flag, is_u32, is_byte, coded_schedule, coded_times}
use Rattle.clocks.specs.declared.clocks.ScheduledEvent.{ScheduledEvent}
use Rattle.clocks.specs.declared.clocks.Winner.{Winner}
use Rattle.clocks.proofs.RowLaws.{flag_back, flag_coded, leaves_as}
use Rattle.clocks.proofs.Tables.{table_same}

module _ (w : WordRows) (f : FloatRows) (sized : Sized w f) (b : List ℕ) (ts : List Float) where
  abbrev w' : WordRows
  w' = set w 1 b

  abbrev f' : FloatRows
  f' = set f 0 ts

  words_other : (r : ℕ) → (r ≡ 1 → ⊥) → get_or w' r [] ≡ get_or w r []
  words_other r n = get_or-set_other w 1 r b [] n

  floats_other : (r : ℕ) → (r ≡ 0 → ⊥) → get_or f' r [] ≡ get_or f r []
  floats_other r n = get_or-set_other f 0 r ts [] n

  words_there : get_or w' 1 [] ≡ b
  words_there = get_or-set_same w 1 b [] (omega (arith, sized.words))

  floats_there : get_or f' 0 [] ≡ ts
  floats_there = get_or-set_same f 0 ts [] (omega (arith, sized.floats))

  channels_same : channels_from w' f' ≡ channels_from w f
  channels_same =
      table_same 8 (λ j. channel_at w f j) (λ j. channel_at w' f' j) (λ j h.
      rw (
        words_other (2 + j) (λ e. omega arith),
        floats_other (1 + 3 * j) (λ e. omega arith),
        floats_other (2 + 3 * j) (λ e. omega arith),
        floats_other (3 + 3 * j) (λ e. omega arith),
      ))

  schedule_coded : Coded w f → coded_schedule b ≡ true → coded_times ts ≡ true → Coded w' f'
  schedule_coded h s t = record {
    settings = rw (words_other 0 (λ e. omega arith)) h.settings;
    schedule = rw words_there s;
    times = rw floats_there t;
    channels = λ j l. rw (words_other (2 + j) (λ e. omega arith), floats_other (1 + 3 * j) (λ e. omega arith)) (h.channels j l);
  }

  schedule_stored : (Coded w f → (coded_schedule b ≡ true) × (coded_times ts ≡ true))
      → Leaves w f w' f' (clock_of (get_or w 0 []) b ts (clock_from w f).channels)
  unfolding clock_from clock_of
  schedule_stored coded = record {
    clock = rw (words_other 0 (λ e. omega arith), words_there, floats_there, channels_same);
    present = rw (words_other 0 (λ e. omega arith));
    coded = λ h. schedule_coded h (coded h).0 (coded h).1;
  }

-- ---- event, winner with its piece, active flag and last update, and what is spare as it was

abbrev at : List ℕ → ℕ → ℕ
at b i = get_or b i 0

abbrev time : List Float → ℕ → Float
time ts i = get_or ts i nan

abbrev spares : List ℕ → Bool
spares b = eqb (at b 6) 0 && eqb (at b 7) 0

spares_coded : (b : List ℕ) → coded_schedule b ≡ true → spares b ≡ true
unfolding coded_schedule
spares_coded b h =
    let last = is_byte (at b 5) && spares b in
    let rest = is_flag (at b 4) && last in
    let winner = (both_true (is_flag (at b 0)) (is_flag (at b 2) && (is_u32 (at b 3) && rest)) h).1 in
    let cause = (both_true (is_flag (at b 2)) (is_u32 (at b 3) && rest) winner).1 in
    (both_true (is_byte (at b 5)) (spares b) (both_true (is_flag (at b 4)) last (both_true (is_u32 (at b 3)) rest cause).1).1).1

module _ (w : WordRows) (f : FloatRows) (sized : Sized w f) (event : ScheduledEvent) (winner : Winner) (active : Bool) (last : Float)
    (u32 : winner.cause_id < 4294967296) (byte : winner.piece < 256) where
  abbrev b : List ℕ
  b = get_or w 1 []

  abbrev ts : List Float
  ts = get_or f 0 []

  abbrev pub schedule_row : List ℕ
  schedule_row =
      from_bool event.present ∷ event.index ∷ from_bool winner.present ∷ winner.cause_id ∷ from_bool active ∷ winner.piece ∷ at b 6
      ∷ at b 7
      ∷ []

  abbrev pub times_row : List Float
  times_row = time ts 0 ∷ winner.time ∷ last ∷ time ts 3 ∷ time ts 4 ∷ time ts 5 ∷ time ts 6 ∷ time ts 7 ∷ []

  row_coded : coded_schedule b ≡ true → coded_schedule schedule_row ≡ true
  unfolding coded_schedule
  row_coded h =
      rw (flag_coded event.present, flag_coded winner.present, lt-ltb _ _ u32, flag_coded active, lt-ltb _ _ byte)
      (spares_coded b h)

  times_coded : coded_times ts ≡ true → coded_times times_row ≡ true
  unfolding coded_times
  times_coded h = h

  row_clock : clock_of (get_or w 0 []) schedule_row times_row (clock_from w f).channels ≡ with_schedule (clock_from w f) event winner active last
  unfolding clock_from clock_of
  row_clock = rw (flag_back event.present, flag_back winner.present, flag_back active, mod-eq_of_lt u32, mod-eq_of_lt byte)

  pub schedule_put : Leaves w f (set w 1 schedule_row) (set f 0 times_row) (with_schedule (clock_from w f) event winner active last)
  schedule_put =
      leaves_as (schedule_stored w f sized schedule_row times_row (λ h. (row_coded h.schedule, times_coded h.times))) row_clock
