-- A sound clock passes refusal 1's test of a clock.
use mathlib.Core.Path.{◌≡◌, refl}
use mathlib.Core.Bool.{true, false}
use mathlib.Core.List.{List}
use Prim.Native.Nat.{ℕ}
use borrow.Author.Tests.{le-leb}
use lib.IntN.{ℤ}
use lib.Dec.{T}
use lib.Ieee.{Float, nan, inf, fin, lt, le}
use lib.Ieee.Bits.{is_true}
use Rattle.hazards.specs.Floats.{is_threshold}
use Rattle.hazards.specs.Lists.{all}
use Rattle.hazards.proofs.Bounds.{Upto}
use Rattle.hazards.proofs.Upto.{for_fin}
use Rattle.clocks.specs.Clocks.{SurvivalClock, used_channels}
use Rattle.clocks.specs.Validation.{is_finite, valid_channel, ascending_from, valid_clock}
use Rattle.clocks.specs.declared.channels.HazardChannelState.{HazardChannelState}
use Rattle.clocks.proofs.Sound.{Each, none, next, SoundChannel, SoundClock}
use Rattle.hazards.proofs.Cases.{by_test}

-- ---- what has a bound is finite, and so is a threshold
upto_finite : {b : ℕ} {x : Float} → Upto b x → is_finite x ≡ true
unfolding is_finite
upto_finite u = for_fin (λ (w : Float). is_finite w ≡ true) (λ (m : ℕ) (e : ℤ). unfold lt in refl) u

threshold_finite : (x : Float) → T (is_threshold x) → is_finite x ≡ true
unfolding is_threshold is_finite
threshold_finite nan h = absurd (unfold le in h)
threshold_finite (inf true) h = absurd (unfold le in h)
threshold_finite (inf false) h = absurd (unfold le in h)
threshold_finite (fin s m e) h = unfold lt in refl

-- ---- channels
channel_valid : (c : HazardChannelState) → SoundChannel c → valid_channel c ≡ true
unfolding valid_channel
channel_valid c s =
    rw (
      s.range,
      s.intervals,
      upto_finite s.accumulated,
      threshold_finite c.target_threshold s.threshold,
      upto_finite s.start,
    )

channels_valid : {cs : List HazardChannelState} → Each SoundChannel cs → all valid_channel cs ≡ true
unfolding all
channels_valid none = refl
channels_valid (next {x} s ss) = rw (channel_valid x s, channels_valid ss)

-- ---- the clock
pub sound_valid : (k : SurvivalClock) → SoundClock k → valid_clock k ≡ true
unfolding valid_clock
sound_valid k s =
    rw (
      le-leb k.channel_count 8 s.count,
      channels_valid s.used,
      is_true (ascending_from 0 (used_channels k)) s.causes,
      is_true (is_finite k.tick_scale) s.scale,
      upto_finite s.last_update,
    )
    (by_test k.current_winner.present (λ e. rw (e, upto_finite (s.winner e))) (λ e. rw e))
