-- The invariant of a clock: every method keeps it where times and hazards are within document 01's limits. It is stronger than refusal 1's
-- test, which is no invariant (proofs/ValidationNotKept.antt).
use mathlib.Core.Path.{◌≡◌}
use mathlib.Core.Bool.{true, false}
use mathlib.Core.List.{List, [], ◌∷◌}
use Prim.Native.Nat.{◌-◌, ◌^◌, ◌≤◌}
use lib.Dec.{T}
use lib.ListN.{length, drop, replicate}
use Rattle.hazards.specs.Floats.{is_threshold}
use Rattle.hazards.specs.Checks.{range_fault, intervals_fault}
use Rattle.hazards.proofs.Bounds.{Upto, largest}
use Rattle.clocks.specs.Channels.{empty_channel}
use Rattle.clocks.specs.Clocks.{SurvivalClock, used_channels}
use Rattle.clocks.specs.Validation.{is_finite, ascending_from}
use Rattle.clocks.specs.declared.channels.HazardChannelState.{HazardChannelState}

-- P of each of these
pub data Each {A : Type 0} (P : A → Type 0) : List A → Type 0 where
  none : Each P []
  next : {x : A} {xs : List A} → P x → Each P xs → Each P (x ∷ xs)

-- its hazard passes 5 and 6, its accumulated hazard is finite with a clear sign, its threshold is one that a draw accepts, and its interval
-- starts at a time from 0 to 2^40
pub record SoundChannel (c : HazardChannelState) : Type 0 where
  pub range : range_fault c.hazard c.intervals ≡ false
  pub intervals : intervals_fault c.hazard c.intervals ≡ false
  pub accumulated : Upto largest c.accumulated_hazard
  pub threshold : T (is_threshold c.target_threshold)
  pub start : Upto (2 ^ 40) c.interval_start_time

-- it has eight places; the used ones hold sound channels by strictly ascending cause, the others the empty channel. Its scale is finite,
-- its last update is at a time from 0 to 2^40, and a winner's time is finite with a clear sign
pub record SoundClock (k : SurvivalClock) : Type 0 where
  pub places : length k.channels ≡ 8
  pub count : k.channel_count ≤ 8
  pub used : Each SoundChannel (used_channels k)
  pub unused : drop k.channel_count k.channels ≡ replicate (8 - k.channel_count) empty_channel
  pub causes : T (ascending_from 0 (used_channels k))
  pub scale : T (is_finite k.tick_scale)
  pub last_update : Upto (2 ^ 40) k.last_update_time
  pub winner : k.current_winner.present ≡ true → Upto largest k.current_winner.time
