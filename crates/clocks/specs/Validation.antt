-- Document 01, refusal 1 ("state handed in"), the part about one clock: over 8 channels, a hazard that 5 or 6 would refuse (over 8 pairs
-- among them), a used float that is not finite, causes that do not strictly ascend.
use Rattle.std.specs.Prelude.{Bool, true, false, not, cond, ◌&&◌, List, [], ◌∷◌, ℕ, suc, leb, Float}
use Rattle.std.specs.Float.{inf}
use Rattle.std.specs.Float.Ieee.{lt}
use Rattle.hazards.specs.Lists.{all}
use Rattle.hazards.specs.Checks.{range_fault, intervals_fault}
use Rattle.clocks.specs.Clocks.{SurvivalClock, used_channels}
use Rattle.clocks.specs.declared.channels.HazardChannelState.{HazardChannelState}

-- neither infinite nor a NaN
unfoldable pub is_finite : Float → Bool
is_finite x = lt (inf true) x && lt x (inf false)

unfoldable pub valid_channel : HazardChannelState → Bool
valid_channel c =
    not (range_fault c.hazard c.intervals)
    && (not (intervals_fault c.hazard c.intervals)
    && (is_finite c.accumulated_hazard && (is_finite c.target_threshold && is_finite c.interval_start_time)))

-- each cause is above the one before it; the first is at least `least`
unfoldable pub ascending_from : ℕ → List HazardChannelState → Bool
ascending_from least [] = true
ascending_from least (c ∷ cs) = leb least c.cause_id && ascending_from (suc c.cause_id) cs

-- the winner's time is used where there is a winner
unfoldable pub valid_clock : SurvivalClock → Bool
valid_clock k =
    leb k.channel_count 8
    && (all valid_channel (used_channels k)
    && (ascending_from 0 (used_channels k)
    && (is_finite k.tick_scale
    && (is_finite k.last_update_time && cond k.current_winner.present (is_finite k.current_winner.time) true))))
