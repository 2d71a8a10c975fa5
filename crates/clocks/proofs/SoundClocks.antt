-- A sound clock with other channels, with each used channel changed, or with another schedule.
use mathlib.Core.Path.{◌≡◌, ◌∙◌}
use mathlib.Core.Bool.{Bool, true}
use mathlib.Core.List.{List}
use Prim.Native.Nat.{ℕ, ◌-◌, ◌^◌, ◌≤◌}
use lib.Dec.{T}
use lib.ListN.{length, take, drop}
use lib.Ieee.{Float}
use Rattle.hazards.proofs.Bounds.{Upto, largest}
use Rattle.clocks.specs.Channels.{on_used}
use Rattle.clocks.specs.Clocks.{SurvivalClock, with_channels, with_schedule}
use Rattle.clocks.specs.declared.clocks.Winner.{Winner}
use Rattle.clocks.specs.Validation.{ascending_from}
use Rattle.clocks.specs.declared.channels.HazardChannelState.{HazardChannelState}
use Rattle.clocks.specs.declared.clocks.ScheduledEvent.{ScheduledEvent}
use Rattle.clocks.proofs.Sound.{Each, SoundChannel, SoundClock}
use Rattle.clocks.proofs.AscendingCauses.{map-ascend}
use Rattle.clocks.proofs.ChangedPlaces.{empties, changed_used, changed_unused}
use Rattle.clocks.proofs.EachChannel.{each-length}
use Rattle.clocks.proofs.EachLaws.{each_map}

module _ (k : SurvivalClock) (s : SoundClock k) where
  -- other channels
  pub channels_sound : (cs : List HazardChannelState) (count : ℕ) → length cs ≡ 8 → count ≤ 8 → Each SoundChannel (take count cs)
      → drop count cs ≡ empties (8 - count) → T (ascending_from 0 (take count cs)) → SoundClock (with_channels k cs count)
  channels_sound cs count p f u n a = record {
    places = p;
    count = f;
    used = u;
    unused = n;
    causes = a;
    scale = s.scale;
    last_update = s.last_update;
    winner = s.winner;
  }

  -- another schedule
  pub schedule_sound : (scheduled : ScheduledEvent) (winner : Winner) (active : Bool) (last : Float)
      → (winner.present ≡ true → Upto largest winner.time) → Upto (2 ^ 40) last
      → SoundClock (with_schedule k scheduled winner active last)
  schedule_sound scheduled winner active last w u = record {
    places = s.places;
    count = s.count;
    used = s.used;
    unused = s.unused;
    causes = s.causes;
    scale = s.scale;
    last_update = u;
    winner = w;
  }

  -- each used channel changed, its cause kept
  pub changed_sound : (f : HazardChannelState → HazardChannelState) → ((c : HazardChannelState) → SoundChannel c → SoundChannel (f c))
      → ((c : HazardChannelState) → (f c).cause_id ≡ c.cause_id)
      → SoundClock (with_channels k (on_used f k.channel_count k.channels) k.channel_count)
  changed_sound f keeps same =
      let cs = k.channels in
      let n = k.channel_count in
      let e = changed_used cs s.places f n s.count in
      channels_sound (on_used f n cs) n (each-length f n cs ∙ s.places) s.count (rw e (each_map f keeps s.used))
      (changed_unused cs s.places f n s.count ∙ s.unused) (rw (e, map-ascend f same) s.causes)
