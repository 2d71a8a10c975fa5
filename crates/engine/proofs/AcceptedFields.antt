-- What a command says of its fields where refusals 4 to 7 let it through.
use mathlib.Core.Path.{◌≡◌}
use mathlib.Core.Bool.{false, true≢false}
use mathlib.Core.List.{List}
use Prim.Native.Nat.{ℕ, ◌<◌}
use native.Mathlib.Omega.{arith}
use borrow.Author.Tests.{ltb-false, not-false}
use lib.Dec.{T}
use Rattle.hazards.specs.Floats.{in_range, is_time}
use Rattle.hazards.specs.Fields.{field_at, f64_at}
use Rattle.hazards.specs.Refusals.{range_fault_unless, identifier_fault_if, is_reserved, joined, number_of}
use Rattle.hazards.specs.Checks.{range_fault, intervals_fault, hazard_faults}
use Rattle.hazards.proofs.AcceptedFlags.{accepted, joined_accepted}
use Rattle.hazards.proofs.Cases.{by_test}
use Rattle.engine.specs.Commands as commands
use Rattle.engine.specs.Commands.{clock_of, now_of, censor_of, hazard_fields, setting_of, clock_faults, create_faults, cause_faults}
use Rattle.engine.specs.Commands.{set_faults, reschedule_faults, pause_faults}

module _ (c : List ℕ) where
  clock_below : number_of (clock_faults c) ≡ 0 → clock_of c < 16
  clock_below h = let i = ltb-false 15 (clock_of c) (accepted (clock_faults c) h).identifier in omega arith

  -- ---- CREATE
  pub record Creates : Type 0 where
    pub clock : clock_of c < 16
    pub scale : T (in_range (f64_at c commands.scale_field))

  pub create_accepted : number_of (create_faults c) ≡ 0 → Creates
  unfolding create_faults
  create_accepted h =
      let f = accepted (create_faults c) h in
      let i = ltb-false 15 (clock_of c) f.identifier in
      record {
        clock = omega arith;
        scale =
            by_test (in_range (f64_at c commands.scale_field)) (λ e. rw e tt) (λ e. absurd (true≢false (rw e at f.range)));
      }

  -- ---- REMOVE
  pub cause_accepted : number_of (cause_faults c) ≡ 0 → clock_of c < 16
  cause_accepted h =
      clock_below (joined_accepted (identifier_fault_if (is_reserved (field_at 4 c commands.cause_field))) (clock_faults c) h).1

  -- ---- SET
  pub record Sets : Type 0 where
    pub clock : clock_of c < 16
    pub range : range_fault (setting_of c).hazard (setting_of c).intervals ≡ false
    pub intervals : intervals_fault (setting_of c).hazard (setting_of c).intervals ≡ false
    pub now : T (is_time (setting_of c).now)

  pub set-accepted : number_of (set_faults c) ≡ 0 → Sets
  unfolding set_faults hazard_faults
  set-accepted h =
      let now = range_fault_unless (is_time (f64_at c commands.set_now_field)) in
      let parts = joined_accepted (hazard_faults (hazard_fields c)) (joined now (cause_faults c)) h in
      let rest = joined_accepted now (cause_faults c) parts.1 in
      let f = accepted (hazard_faults (hazard_fields c)) parts.0 in
      record {
        clock = cause_accepted rest.1;
        range = f.range;
        intervals = f.intervals;
        now = rw (not-false (is_time (f64_at c commands.set_now_field)) (accepted now rest.0).range) tt;
      }

  -- ---- RESCHEDULE and RESUME
  pub record Reschedules : Type 0 where
    pub clock : clock_of c < 16
    pub now : T (is_time (now_of c))
    pub censor : T (is_time (censor_of c).time)

  pub reschedule_accepted : number_of (reschedule_faults c) ≡ 0 → Reschedules
  unfolding reschedule_faults
  reschedule_accepted h =
      let f = accepted (reschedule_faults c) h in
      let i = ltb-false 15 (clock_of c) f.identifier in
      let range = f.range in
      record {
        clock = omega arith;
        now = by_test (is_time (now_of c)) (λ e. rw e tt) (λ e. absurd (true≢false (rw e at range)));
        censor =
            by_test (is_time (now_of c))
            (λ e.
            by_test (is_time (censor_of c).time) (λ d. rw d tt) (λ d. absurd (true≢false (rw (e, d) at range))))
            (λ e. absurd (true≢false (rw e at range)));
      }

  -- ---- PAUSE
  pub record Pauses : Type 0 where
    pub clock : clock_of c < 16
    pub now : T (is_time (now_of c))

  pub pause_accepted : number_of (pause_faults c) ≡ 0 → Pauses
  unfolding pause_faults
  pause_accepted h =
      let parts = joined_accepted (range_fault_unless (is_time (now_of c))) (clock_faults c) h in
      record {
        clock = clock_below parts.1;
        now = rw (not-false (is_time (now_of c)) (accepted (range_fault_unless (is_time (now_of c))) parts.0).range) tt;
      }
