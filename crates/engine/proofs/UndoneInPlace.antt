-- UNDO in lent memory: what it leaves where it is refused, and where the last command is taken back.
use mathlib.Core.Path.{◌≡◌, refl, sym, ap, ◌∙◌}
use mathlib.Core.Bool.{true, false}
use mathlib.Core.List.{List, []}
use Prim.Native.Nat.{ℕ, ◌<◌}
use native.Mathlib.Omega.{arith}
use lib.ListN.{get_or, take}
use Rattle.std.proofs.Common.{Some}
use Rattle.hazards.specs.Answers.{no_event}
use Rattle.hazards.specs.declared.answers.Answer.{Answer}
use Rattle.clocks.specs.Layout.{WordRows, FloatRows}
use Rattle.engine.specs.Refusals.{nothing_applied, replay_fails}
use Rattle.engine.specs.Engine.{Bytes, Engine, Outcome, unchanged}
use Rattle.engine.specs.Replay.{cleared, undo}
use Rattle.engine.specs.State.{with_slot, EngineState}
use Rattle.engine.specs.Comparison.{same_state}
use Rattle.engine.specs.Instance.{engine_of}
use Rattle.engine.specs.Answers.{after}
use Rattle.engine.specs.ReplayInternals.{ReplayEnd, fails, replay_all, kept_end}
use Rattle.engine.specs.StateRows.{shared_of, shared_from, state_from, CodedState}
use Rattle.engine.specs.KeptRows.{kept_slot, kept_shared}
use Rattle.engine.specs.InPlace.{Executes}
use Rattle.engine.specs.declared.replay.LastCommand.{LastCommand}
use Rattle.engine.proofs.Asking.{undo_nothing, undo_fails, undo_other, undo_reverts}

module _ (stream : List ℕ) (n : ℕ) (w : WordRows) (f : FloatRows) (j : Bytes) where
  abbrev E : Engine
  E = engine_of stream n

  abbrev s : EngineState
  s = state_from w f

  -- a refusal leaves every word and float
  pub leaves_all : {o : Outcome E} (number : ℕ) → o ≡ unchanged E s j number → (a : Answer) → a ≡ no_event number
      → Executes w f (after stream n o) w f j a
  leaves_all number q a e = record {
    does = rw (q, e);
    keeps = λ h. (refl, refl);
    coded = λ h. h;
  }

  module _ (k : ℕ) (counted : k ≡ s.shared.applied_length) where
    pub nothing_left : k ≡ 0 → (a : Answer) → a ≡ no_event nothing_applied → Executes w f (after stream n (undo E s j)) w f j a
    nothing_left z a e = leaves_all nothing_applied (undo_nothing E s j (omega (arith, counted))) a e

    -- by the replay that keeps what the last command changes
    module _ (some-applied : k ≡ 0 → ⊥) where
      pos : 0 < s.shared.applied_length
      pos = omega (arith, counted, some-applied)

      ended_as : {x : ReplayEnd E} → x ≡ replay_all E (take k j) → replay_all E (take s.shared.applied_length j) ≡ x
      ended_as e = ap (λ (m : ℕ). replay_all E (take m j)) (sym counted) ∙ sym e

      pub failed_left : fails ≡ replay_all E (take k j) → (a : Answer) → a ≡ no_event replay_fails
          → Executes w f (after stream n (undo E s j)) w f j a
      failed_left h a e = leaves_all replay_fails (undo_fails E s j pos (ended_as h)) a e

      module _ (r : LastCommand) (w₁ : WordRows) (f₁ : FloatRows) (kept : WordRows) (y : FloatRows)
          (replayed : kept_end stream n (Some r) w₁ f₁ kept y ≡ replay_all E (take k j)) where
        abbrev s₁ : EngineState
        s₁ = state_from w₁ f₁

        abbrev before : EngineState
        before = with_slot s₁ r.clock (kept_slot kept y) (kept_shared kept)

        pub other_left : same_state s₁ s ≡ false → (a : Answer) → a ≡ no_event replay_fails
            → Executes w f (after stream n (undo E s j)) w f j a
        other_left d a e = leaves_all replay_fails (undo_other E s j pos s₁ before r.place (ended_as replayed) d) a e

        -- it is taken back in the rows of the replay, and these are copied
        pub reverted_left : same_state s₁ s ≡ true → (a : Answer) → a ≡ no_event 0 → (w₂ : WordRows) (f₂ : FloatRows)
            → state_from w₂ f₂ ≡ before → CodedState w₂ f₂ → (w' : WordRows) → w' ≡ w₂ → (f' : FloatRows) → f' ≡ f₂
            → (j' : Bytes) → j' ≡ cleared E j r.place k → Executes w f (after stream n (undo E s j)) w' f' j' a
        reverted_left d a e w₂ f₂ es coded w' ew f' ef j' ej =
            let did = undo_reverts E s j pos s₁ before r.place (ended_as replayed) d in
            let state : state_from w' f' ≡ before = rw (ew, ef) es in
            let journal = ej ∙ ap (cleared E j r.place) counted in record {
              does = rw did (λ i. record { answer = e i; state = state i; journal = journal i });
              keeps = λ z. absurd (z (ap (λ (x : Answer). x.number) e));
              coded = λ q. rw (ew, ef) coded;
            }

pub applied_read : (w : WordRows) (f : FloatRows) → get_or (get_or w 160 []) 3 0 ≡ (state_from w f).shared.applied_length
unfolding state_from shared_from shared_of
applied_read w f = refl
