-- RESCHEDULE and RESUME in place, by the method that they call: refused, without room, and done.
use mathlib.Core.Path.{◌≡◌, refl, ◌∙◌, ap, ap₂}
use mathlib.Core.Bool.{true, false}
use mathlib.Core.List.{List}
use Prim.Native.Nat.{ℕ, ◌+◌}
use native.Mathlib.Omega.{arith}
use lib.Dec.{leb}
use lib.Ieee.{Float}
use lib.ListN.{length}
use Rattle.hazards.specs.Answers.{no_event}
use Rattle.hazards.specs.declared.answers.Answer.{Answer}
use Rattle.clocks.specs.Layout.{WordRows, FloatRows}
use Rattle.clocks.specs.Scheduling.{Rescheduled}
use Rattle.clocks.specs.RowsInternals.{queue_change}
use Rattle.clocks.specs.Clocks.{SurvivalClock}
use Rattle.clocks.specs.RowsInternals.{QueueChange}
use Rattle.clocks.specs.Scheduling.{Censor}
use Rattle.engine.specs.Commands.{clock_of, now_of, censor_of, reschedule_faults}
use Rattle.engine.specs.Refusals.{journal_full}
use Rattle.engine.specs.State.{slot_at, with_applied_bytes, ClockSlot, EngineState, SharedState}
use Rattle.engine.specs.Engine.{Performed}
use Rattle.engine.specs.Execution.{OnSlot, is_withdrawn, event_answer, stored}
use Rattle.engine.specs.ExecutionInternals.{requeued}
use Rattle.engine.specs.StateRows.{shared_from, state_from, LeavesShared, LeavesClock, Performs}
use Rattle.engine.proofs.ExecutionCases.{refusal_of, method_on, reschedule_full, reschedule_done}
use Rattle.engine.proofs.CommandsInPlace.{asked, turned_away, refused_later, carried_out, shared_as}

module _ (w : WordRows) (f : FloatRows) (n : ℕ) (c : List ℕ) (method : SurvivalClock → Float → Censor → ℕ → Rescheduled) where
  abbrev s : EngineState
  s = state_from w f

  abbrev p : SharedState
  p = shared_from w

  abbrev k : ℕ
  k = clock_of c

  abbrev here : ClockSlot
  here = slot_at s k

  -- what is done to the clock, and what the method makes of it
  abbrev pub on : SurvivalClock → OnSlot
  on = method_on n here p c method

  abbrev pub outcome : Rescheduled
  outcome = method here.clock (now_of c) (censor_of c) p.request_count

  abbrev pub told : Performed EngineState Answer
  told = stored s k (asked w f c (reschedule_faults c) on)

  module _ {number : ℕ} (e : number ≡ refusal_of here.present (reschedule_faults c)) where
    pub reschedule_away : {a : Answer} → (number ≡ 0 → ⊥) → a ≡ no_event number → Performs w f told w f a
    reschedule_away h q = turned_away w f c (reschedule_faults c) on e h q

    module _ (h : number ≡ 0) where
      pub reschedule_no_room : {a : Answer} → leb (p.applied_length + length c) n ≡ false → a ≡ no_event journal_full
          → Performs w f told w f a
      reschedule_no_room l q =
          refused_later w f c (reschedule_faults c) on e h journal_full (λ z. omega arith) (reschedule_full n p c outcome l) q

      pub reschedule_made : leb (p.applied_length + length c) n ≡ true
          → {w' w'' : WordRows} {f' : FloatRows} {change : QueueChange} {a : Answer}
          → LeavesClock w f k w' f' outcome.clock → length w' ≡ 177 → change ≡ queue_change outcome
          → LeavesShared w' w'' (with_applied_bytes (length c) (requeued (shared_from w') c change)) → length w'' ≡ 177
          → a ≡ event_answer change.event (is_withdrawn (shared_from w') change.withdrawn) change.ticks
          → Performs w f told w'' f' a
      reschedule_made l left l' asks then l'' q =
          let answers =
          q
          ∙ ap₂ (λ (x : SharedState) (g : QueueChange). event_answer g.event (is_withdrawn x g.withdrawn) g.ticks)
          left.shared asks in
          carried_out w f c (reschedule_faults c) on e h (reschedule_done n p c outcome l refl refl refl answers)
          (ap (λ (x : Answer). x.number) answers) left l'
          (shared_as then
          (ap₂ (λ (x : SharedState) (g : QueueChange). with_applied_bytes (length c) (requeued x c g)) left.shared asks)) l''
