-- Loops over the used channels of a clock in lent memory: each channel changed where it lies, and the channels read one after another.
use mathlib.Core.Path.{◌≡◌, sym, ◌∙◌, ap}
use mathlib.Core.Bool.{true}
use mathlib.Core.List.{List, [], ◌∷◌}
use Prim.Native.Nat.{ℕ, ◌+◌, ◌*◌, ◌<◌, ◌≤◌, min}
use native.Mathlib.Omega.{arith}
use lib.Ieee.{Float, nan}
use lib.ListN.{length, get_or, set, drop}
use Rattle.hazards.proofs.Cases.{both_true}
use Rattle.clocks.specs.Channels.{with_accumulated, on_used}
use Rattle.clocks.specs.Clocks.{used_channels, with_channels}
use Rattle.clocks.specs.Layout.{WordRows, FloatRows, channel_from, channel_at, clock_from, coded_words, coded_numbers, Coded, Leaves}
use Rattle.clocks.specs.declared.channels.HazardChannelState.{HazardChannelState}
use Rattle.clocks.proofs.ChannelStores.{numbers_stored}
use Rattle.clocks.proofs.EachChannel.{each_none, each_all, each_turn}
use Rattle.clocks.proofs.RowLaws.{channels_eight, channel-in, with_channel_at, leaves_then, leaves_none, leaves_as}
use Rattle.clocks.proofs.UsedChannels.{past_end, used_next}

-- ---- the row of a channel's numbers, with another accumulated hazard and interval start

module _ (w : WordRows) (f : FloatRows) (j : ℕ) (hj : j < 8) (rows : length f ≡ 25) (ns : List Float)
    (others : (i : ℕ) → (i ≡ 0 → ⊥) → (i ≡ 2 → ⊥) → get_or ns i nan ≡ get_or (get_or f (1 + 3 * j) []) i nan) where
  beside : (i : ℕ) → 3 ≤ i → get_or ns i nan ≡ get_or (get_or f (1 + 3 * j) []) i nan
  beside i h = others i (λ e. omega arith) (λ e. omega arith)

  numbers_coded : Coded w f → coded_numbers (get_or (get_or w (2 + j) []) 2 0) ns ≡ true
  unfolding coded_numbers
  numbers_coded h =
      let ws = get_or w (2 + j) [] in
      rw (beside 3 (omega arith), beside 4 (omega arith), beside 5 (omega arith), beside 6 (omega arith), beside 7 (omega arith))
      (both_true (coded_words ws) (coded_numbers (get_or ws 2 0) (get_or f (1 + 3 * j) [])) (h.channels j hj)).1

  pub progress_stored : (total start : Float) → get_or ns 0 nan ≡ total → get_or ns 2 nan ≡ start
      → Leaves w f w (set f (1 + 3 * j) ns) (with_channel_at (clock_from w f) j (with_accumulated (channel_at w f j) total start))
  unfolding channel_from
  progress_stored total start first third =
      leaves_as (numbers_stored w f j hj rows ns numbers_coded)
      (rw (first, third, others 1 (λ e. omega arith) (λ e. omega arith), beside 3 (omega arith)))

-- ---- a loop that changes the used channels one by one: the first j are changed

abbrev pub Changed : (HazardChannelState → HazardChannelState) → WordRows → FloatRows → ℕ → FloatRows → Type 0
Changed g w f₀ j f =
    Leaves w f₀ w f (with_channels (clock_from w f₀) (on_used g j (clock_from w f₀).channels) (clock_from w f₀).channel_count)

module _ (g : HazardChannelState → HazardChannelState) (w : WordRows) (f₀ : FloatRows) where
  pub changed_none : Changed g w f₀ 0 f₀
  changed_none = rw each_none (leaves_none w f₀)

  module _ (f : FloatRows) (j : ℕ) (h : Changed g w f₀ j f) where
    pub changed-all : j ≡ min (clock_from w f₀).channel_count 8 → Changed g w f₀ (clock_from w f₀).channel_count f
    changed-all e =
        leaves_as h (rw (e, each_all g (clock_from w f₀).channel_count (clock_from w f₀).channels (channels_eight w f₀)))

    pub changed_more : (f' : FloatRows) → j < 8 → Leaves w f w f' (with_channel_at (clock_from w f) j (g (channel_at w f j)))
        → Changed g w f₀ (j + 1) f'
    changed_more f' hj s =
        leaves_then h
        (leaves_as s
        (ap (λ (c : HazardChannelState). with_channel_at (clock_from w f) j (g c)) (sym (channel-in w f j past_end hj))
        ∙ each_turn g (clock_from w f₀) (clock_from w f) j past_end (channels_eight w f₀) hj h.clock))

-- ---- a loop that reads them: those from j on begin with channel j

pub used_from : (w : WordRows) (f : FloatRows) (j : ℕ) → j < min (clock_from w f).channel_count 8
    → drop j (used_channels (clock_from w f)) ≡ channel_at w f j ∷ drop (j + 1) (used_channels (clock_from w f))
used_from w f j h =
    let k = clock_from w f in
    rw (← channel-in w f j past_end (omega arith)) (used_next k.channels k.channel_count (channels_eight w f) j past_end h)
