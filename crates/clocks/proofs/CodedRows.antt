-- The test of a clock's rows passes where they are coded, and there alone.
use mathlib.Core.Path.{◌≡◌}
use mathlib.Core.Bool.{true, ◌&&◌}
use mathlib.Core.List.{[]}
use Prim.Native.Nat.{◌+◌, ◌*◌}
use lib.ListN.{get_or}
use Rattle.hazards.proofs.Cases.{both_true}
use Rattle.clocks.specs.Layout.{WordRows, FloatRows, coded_settings, coded_schedule, coded_times, coded_channel, coded_channels}
use Rattle.clocks.specs.Layout.{coded_clock, Coded}
use Rattle.clocks.proofs.EveryBelow.{every_at, every_from}

module _ (w : WordRows) (f : FloatRows) where
  pub coded_facts : coded_clock w f ≡ true → Coded w f
  unfolding coded_clock
  coded_facts h =
      let a = both_true (coded_settings (get_or w 0 []))
      (coded_schedule (get_or w 1 []) && (coded_times (get_or f 0 []) && coded_channels w f)) h in
      let b = both_true (coded_schedule (get_or w 1 [])) (coded_times (get_or f 0 []) && coded_channels w f) a.1 in
      let t = both_true (coded_times (get_or f 0 [])) (coded_channels w f) b.1 in
      record {
        settings = a.0;
        schedule = b.0;
        times = t.0;
        channels = λ j l. every_at (λ i. coded_channel (get_or w (2 + i) []) (get_or f (1 + 3 * i) [])) 8 j t.1 l;
      }

  pub coded_test : Coded w f → coded_clock w f ≡ true
  unfolding coded_clock
  coded_test h =
      rw (
        h.settings,
        h.schedule,
        h.times,
        every_from (λ i. coded_channel (get_or w (2 + i) []) (get_or f (1 + 3 * i) [])) 8 h.channels,
      )
