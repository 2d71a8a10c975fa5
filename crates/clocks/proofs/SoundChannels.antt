-- A channel stays sound when it is settled or restarted, and a setting within 5 and 6 makes a sound channel.
use mathlib.Core.Path.{◌≡◌}
use mathlib.Core.Bool.{false}
use Prim.Native.Nat.{◌^◌}
use lib.Dec.{T}
use lib.Ieee.{Float}
use Rattle.hazards.specs.Floats.{is_threshold}
use Rattle.hazards.specs.Checks.{range_fault, intervals_fault}
use Rattle.hazards.proofs.Bounds.{Upto, largest}
use Rattle.hazards.proofs.AcceptedHazards.{faultless_sound}
use Rattle.hazards.proofs.HazardBounds.{settled_upto}
use Rattle.hazards.proofs.SoundPairs.{sound}
use Rattle.clocks.specs.Channels.{settled_hazard, settled, restarted}
use Rattle.clocks.specs.Setting.{channel_of}
use Rattle.clocks.specs.declared.channels.HazardChannelState.{HazardChannelState}
use Rattle.clocks.specs.declared.setting.CauseSetting.{CauseSetting}
use Rattle.clocks.proofs.Sound.{SoundChannel}

module _ (c : HazardChannelState) (s : SoundChannel c) where
  hazard_sound : T (sound c.hazard c.intervals)
  hazard_sound = faultless_sound c.hazard c.intervals s.range s.intervals

  module _ (now : Float) (u : Upto (2 ^ 40) now) where
    pub settled_hazard_upto : Upto largest (settled_hazard c now)
    unfolding settled_hazard
    settled_hazard_upto = settled_upto c.hazard c.intervals hazard_sound s.accumulated s.start u

    pub settled_sound : SoundChannel (settled now c)
    settled_sound = record {
      range = s.range;
      intervals = s.intervals;
      accumulated = settled_hazard_upto;
      threshold = s.threshold;
      start = u;
    }

    pub restarted_sound : SoundChannel (restarted now c)
    restarted_sound = record {
      range = s.range;
      intervals = s.intervals;
      accumulated = s.accumulated;
      threshold = s.threshold;
      start = u;
    }

-- the channel of a setting whose hazard passes 5 and 6, from a time on
pub setting_sound : (s : CauseSetting) {accumulated threshold : Float} → range_fault s.hazard s.intervals ≡ false
    → intervals_fault s.hazard s.intervals ≡ false → Upto (2 ^ 40) s.now → Upto largest accumulated → T (is_threshold threshold)
    → SoundChannel (channel_of s accumulated threshold)
setting_sound s r i u a t = record { range = r; intervals = i; accumulated = a; threshold = t; start = u }
