-- Refusal 1's test of a clock is no invariant: a clock whose channel's interval starts at minus the largest value passes it, and a pause
-- at 0 leaves an infinite accumulated hazard.
use mathlib.Core.Path.{◌≡◌, refl}
use mathlib.Core.Bool.{true, false}
use mathlib.Core.List.{◌∷◌}
use Prim.Native.Nat.{◌-◌, ◌^◌}
use lib.IntN.{pos}
use lib.ListN.{replicate}
use lib.Ieee.{Float, fin, add, sub, mul, lt, le, to_bits}
use Rattle.hazards.specs.Floats.{z, limit, not_below_zero, zero_bits, in_range}
use Rattle.hazards.specs.Lists.{all}
use Rattle.hazards.specs.Rates.{pieces_by, cumulative_of_rate, cumulative_hazard}
use Rattle.hazards.specs.Checks.{range_fault, intervals_fault}
use Rattle.hazards.specs.declared.rates.HazardRate.TheVariants.{Constant}
use Rattle.hazards.specs.declared.ties.TieBreaker.TheVariants.{LowestCauseId}
use Rattle.clocks.specs.Channels.{empty_intervals, empty_channel, settled_hazard, on_used}
use Rattle.clocks.specs.Clocks.{SurvivalClock, not_scheduled, no_winner, one}
use Rattle.clocks.specs.Scheduling.{pause}
use Rattle.clocks.specs.Validation.{is_finite, valid_channel, ascending_from, valid_clock}
use Rattle.clocks.specs.declared.channels.HazardChannelState.{HazardChannelState}
use Rattle.clocks.specs.declared.clocks.HazardInterruptionPolicy.TheVariants.{Restart}

abbrev pub minus_largest : Float
minus_largest = fin true (2 ^ 53 - 1) (pos 971)

-- rate 2^40
abbrev pub early : HazardChannelState
early = record {
  cause_id = 0;
  priority = 0;
  hazard = Constant limit;
  intervals = empty_intervals;
  accumulated_hazard = z;
  target_threshold = one;
  interval_start_time = minus_largest;
}

abbrev pub handed_in : SurvivalClock
handed_in = record {
  process_id = 0;
  has_entity = false;
  entity = record { index = 0; generation = 0 };
  policy = Restart;
  tie_breaker = LowestCauseId;
  tick_scale = one;
  channels = early ∷ replicate 7 empty_channel;
  channel_count = 1;
  scheduled_event_id = not_scheduled;
  current_winner = no_winner;
  is_active = true;
  last_update_time = z;
}

pub validation_not_kept : (valid_clock handed_in ≡ true) × (valid_clock (pause handed_in z).clock ≡ false)
unfolding valid_clock valid_channel all ascending_from is_finite range_fault intervals_fault in_range zero_bits pieces_by
    pause on_used settled_hazard cumulative_hazard cumulative_of_rate not_below_zero add sub mul lt le to_bits
validation_not_kept = (refl, refl)
