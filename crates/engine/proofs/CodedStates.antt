-- The test of a state's rows passes where they are coded, and there alone.
use mathlib.Core.Path.{◌≡◌}
use mathlib.Core.List.{[]}
use mathlib.Core.Bool.{true, ◌&&◌}
use Prim.Native.Nat.{◌+◌}
use lib.ListN.{get_or}
use Rattle.hazards.proofs.Cases.{both_true}
use Rattle.clocks.specs.Layout.{WordRows, FloatRows, coded_clock}
use Rattle.clocks.proofs.CodedRows.{coded_facts, coded_test}
use Rattle.clocks.proofs.EveryBelow.{every_at, every_from}
use Rattle.engine.specs.StateRows.{part_at, coded_counts, coded_request, coded_requests, coded_clocks, coded_state, CodedShared, CodedState}

module _ (w : WordRows) where
  pub shared_facts : coded_counts (get_or w 160 []) ≡ true → coded_requests w ≡ true → CodedShared w
  shared_facts c r = record {
    counts = c;
    requests = λ i l. every_at (λ j. coded_request (get_or w (161 + j) [])) 16 i r l;
  }

  pub requests_test : CodedShared w → coded_requests w ≡ true
  requests_test h = every_from (λ j. coded_request (get_or w (161 + j) [])) 16 h.requests

module _ (w : WordRows) (f : FloatRows) where
  pub state_facts : coded_state w f ≡ true → CodedState w f
  unfolding coded_state
  state_facts h =
      let a = both_true (coded_clocks w f) (coded_counts (get_or w 160 []) && coded_requests w) h in
      let b = both_true (coded_counts (get_or w 160 [])) (coded_requests w) a.1 in
      record {
        clocks =
            λ k l.
            coded_facts (part_at 10 k w) (part_at 25 k f) (every_at (λ j. coded_clock (part_at 10 j w) (part_at 25 j f)) 16 k a.0 l);
        shared = shared_facts w b.0 b.1;
      }

  pub state_test : CodedState w f → coded_state w f ≡ true
  unfolding coded_state
  state_test h =
      rw (
        every_from (λ j. coded_clock (part_at 10 j w) (part_at 25 j f)) 16
            (λ k l. coded_test (part_at 10 k w) (part_at 25 k f) (h.clocks k l)),
        h.shared.counts,
        requests_test w h.shared,
      )
