-- Refusal 1's test of a clock by its parts: a first channel passes, it fails, or there is none; the channels and the rest.
use mathlib.Core.Path.{◌≡◌, refl, sym, ◌∙◌}
use mathlib.Core.Bool.{Bool, true, false, cond, ◌&&◌, true≢false}
use mathlib.Core.List.{List, [], ◌∷◌}
use Prim.Native.Nat.{ℕ, suc, ◌+◌, ◌<◌, ◌≤◌}
use native.Mathlib.Numerals.{add-one}
use borrow.Author.Tests.{le-leb, lt-leb}
use lib.Dec.{ltb, leb, leb-suc-suc}
use lib.Ieee.{Float, nan, inf, fin, lt}
use Rattle.std.specs.Float.{float_is_finite}
use lib.ListN.{get_or}
use Rattle.hazards.specs.Lists.{all}
use Rattle.clocks.specs.Clocks.{SurvivalClock, used_channels}
use Rattle.clocks.specs.Layout.{WordRows, FloatRows, flag_from, clock_of, clock_from}
use Rattle.clocks.specs.Validation.{is_finite, valid_channel, ascending_from, valid_clock}
use Rattle.clocks.specs.declared.channels.HazardChannelState.{HazardChannelState}
use Rattle.clocks.proofs.EveryBelow.{and_false}
use Rattle.clocks.proofs.OwnRows.{count_in}

-- ---- the channels

-- every channel passes, and the causes ascend from `least` on
abbrev pub channels_pass : ℕ → List HazardChannelState → Bool
channels_pass least cs = all valid_channel cs && ascending_from least cs

regrouped : (v l a s : Bool) → (v && l) ≡ true → ((v && a) && (l && s)) ≡ (a && s)
regrouped true true a s e = refl
regrouped true false a s e = absurd (true≢false (sym e))
regrouped false l a s e = absurd (true≢false (sym e))

one_fails : (v l a s : Bool) → (v && l) ≡ false → ((v && a) && (l && s)) ≡ false
one_fails true true a s e = absurd (true≢false e)
one_fails true false a s e = and_false a
one_fails false l a s e = refl

-- a test of a cause by one above it
below_above : (m n : ℕ) → ltb m (n + 1) ≡ leb m n
below_above m n = rw add-one (leb-suc-suc m n)

module _ (least : ℕ) {above : ℕ} {cs ds : List HazardChannelState} {c : HazardChannelState} {valid : Bool} (first : cs ≡ c ∷ ds)
    (v : valid ≡ valid_channel c) (u : above ≡ c.cause_id + 1) where
  pub channels_next : (valid && ltb least above) ≡ true → channels_pass least cs ≡ channels_pass above ds
  unfolding all ascending_from
  channels_next t =
      rw (first, u, add-one)
      (regrouped (valid_channel c) (leb least c.cause_id) (all valid_channel ds) (ascending_from (suc c.cause_id) ds)
      (rw (v, u, below_above least c.cause_id) at t))

  pub channels_fail : (valid && ltb least above) ≡ false → channels_pass least cs ≡ false
  unfolding all ascending_from
  channels_fail t =
      rw first
      (one_fails (valid_channel c) (leb least c.cause_id) (all valid_channel ds) (ascending_from (suc c.cause_id) ds)
      (rw (v, u, below_above least c.cause_id) at t))

pub channels_none : (least : ℕ) {cs : List HazardChannelState} → cs ≡ [] → channels_pass least cs ≡ true
unfolding all ascending_from
channels_none least none = rw none

-- ---- a clock

abbrev rest_passes : SurvivalClock → Bool
rest_passes k =
    is_finite k.tick_scale
    && (is_finite k.last_update_time && cond k.current_winner.present (is_finite k.current_winner.time) true)

and_assoc : (a b c : Bool) → (a && (b && c)) ≡ ((a && b) && c)
and_assoc true b c = refl
and_assoc false b c = refl

clock_is : (k : SurvivalClock) → k.channel_count ≤ 8 → valid_clock k ≡ (channels_pass 0 (used_channels k) && rest_passes k)
unfolding valid_clock
clock_is k h =
    rw (le-leb k.channel_count 8 h)
    (and_assoc (all valid_channel (used_channels k)) (ascending_from 0 (used_channels k)) (rest_passes k))

-- the clock of rows: the channels used are counted in the settings
module _ (w : WordRows) (f : FloatRows) where
  abbrev k : SurvivalClock
  k = clock_from w f

  pub clock_over : 8 < get_or (get_or w 0 []) 7 0 → valid_clock k ≡ false
  unfolding valid_clock
  clock_over h = rw (lt-leb k.channel_count 8 (rw (count_in w f) h))

  module _ (h : get_or (get_or w 0 []) 7 0 ≤ 8) where
    pub clock_fails : channels_pass 0 (used_channels k) ≡ false → valid_clock k ≡ false
    clock_fails e = clock_is k (rw (count_in w f) h) ∙ rw e

    -- what is left to test where the channels pass: the floats of the clock's own row
    pub clock_rest : channels_pass 0 (used_channels k) ≡ true
        → valid_clock k
        ≡ (is_finite (get_or (get_or f 0 []) 0 nan)
        && (is_finite (get_or (get_or f 0 []) 2 nan) && cond (flag_from (get_or (get_or w 1 []) 2 0)) (is_finite (get_or (get_or f 0 []) 1 nan)) true))
    unfolding clock_from clock_of
    clock_rest e = clock_is k (rw (count_in w f) h) ∙ rw e

-- ---- the library's test of a float that is neither infinite nor a NaN

pub finite_is : (x : Float) → float_is_finite x ≡ is_finite x
unfolding is_finite float_is_finite lt
finite_is nan = refl
finite_is (inf true) = refl
finite_is (inf false) = refl
finite_is (fin s m e) = refl

-- ---- three tests, of which two are made first

module _ (a b c : Bool) {x y : Bool} (first : x ≡ a) (second : y ≡ b) where
  pub two_fail : (x && y) ≡ false → false ≡ (a && (b && c))
  two_fail e = sym (and_assoc a b c ∙ rw (rw (first, second) at e))

  pub two_pass : (x && y) ≡ true → (a && (b && c)) ≡ c
  two_pass e = and_assoc a b c ∙ rw (rw (first, second) at e)
