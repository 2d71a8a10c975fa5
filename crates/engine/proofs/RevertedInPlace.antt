-- A command that is taken back at once, in place: the clock that it changed and the shared state are put back.
use mathlib.Core.Path.{◌≡◌, refl, ◌∙◌, ap, subst}
use mathlib.Core.List.{List}
use mathlib.Core.Option.{some}
use Prim.Native.Nat.{ℕ, ◌<◌}
use borrow.Author.Tests.{eq-eqb}
use Rattle.hazards.specs.declared.answers.Answer.{Answer}
use Rattle.clocks.specs.Layout.{WordRows, FloatRows}
use Rattle.engine.specs.Commands as commands
use Rattle.engine.specs.Commands.{width_of}
use Rattle.engine.specs.Queue.{next_request}
use Rattle.engine.specs.Engine.{Performed, rejected, performed, code}
use Rattle.engine.specs.State.{slot_at, with_slot, queued_requests, ClockSlot, SharedState, EngineState}
use Rattle.engine.specs.Execution.{OnSlot, refused, done, target, stored, perform_on, perform}
use Rattle.engine.specs.StateRows.{shared_from, state_from, CodedState, performed_of, Performs}
use Rattle.engine.specs.KeptRows.{kept_slot, kept_shared, CodedKept}
use Rattle.engine.specs.ExecutionInternals.{TakenBack}
use Rattle.engine.specs.declared.state.Request.{Request}
use Rattle.engine.proofs.PerformedTargets.{accepted_target}
use Rattle.engine.proofs.SlotLaws.{put_back}

-- ---- an accepted command changes one of the sixteen and the shared state

abbrev Accepts : Performed EngineState Answer → Type 0
Accepts (rejected number) = ⊥
Accepts (performed s a) = Unit {0}

abbrev state_or : EngineState → Performed EngineState Answer → EngineState
state_or other (rejected number) = other
state_or other (performed s a) = s

-- what an accepted command does to the state s, about clock t
pub record ChangesOne (s : EngineState) (t : ℕ) (s' : EngineState) : Type 0 where
  pub below : t < 16
  pub slot : ClockSlot
  pub shared : SharedState
  pub state : s' ≡ with_slot s t slot shared

module _ (stream : List ℕ) (n : ℕ) (s : EngineState) (c : List ℕ)
    (next : (r : Request) → next_request (queued_requests s.shared) ≡ some r → r.clock < 16)
    (wide : 0 < width_of (code c)) (no-undo : code c ≡ commands.undo → ⊥) where
  abbrev t : ℕ
  t = target s.shared c

  pub changes_one : (s' : EngineState) (a : Answer) → a.number ≡ 0 → performed_of s' a ≡ perform stream n s c → ChangesOne s t s'
  unfolding perform
  changes_one s' a z e = go (perform_on stream n (slot_at s t) s.shared c) refl
    where
      done_as : performed s' a ≡ stored s t (perform_on stream n (slot_at s t) s.shared c)
      done_as = rw (eq-eqb a.number 0 z) at e

      go : (d : OnSlot) → perform_on stream n (slot_at s t) s.shared c ≡ d → ChangesOne s t s'
      go (refused number) q = absurd (subst Accepts (done_as ∙ ap (stored s t) q) tt)
      go (done slot p b) q = record {
        below = accepted_target stream n s c next wide no-undo slot p b q;
        slot = slot;
        shared = p;
        state = ap (state_or s) (done_as ∙ ap (stored s t) q);
      }

-- ---- taken back

shared_of : (w : WordRows) (f : FloatRows) → shared_from w ≡ (state_from w f).shared
unfolding state_from
shared_of w f = refl

module _ (w : WordRows) (f : FloatRows) (o : Performed EngineState Answer) (w₁ : WordRows) (f₁ : FloatRows) (a : Answer)
    (did : Performs w f o w₁ f₁ a) where
  abbrev s : EngineState
  s = state_from w f

  abbrev s₁ : EngineState
  s₁ = state_from w₁ f₁

  -- refused, it left all as it was
  pub refused_back : (a.number ≡ 0 → ⊥) → TakenBack w f o w₁ f₁ a
  refused_back h =
      let kept = did.keeps h in record {
        taken = s₁;
        does = did.does;
        refused = λ n. (did.keeps n).2;
        same = rw (kept.0, kept.1);
        coded = did.coded;
      }

  module _ (k : ℕ) (kept : WordRows) (y : FloatRows) (Slot-kept : kept_slot kept y ≡ slot_at s k)
      (shared_kept : kept_shared kept ≡ shared_from w) (Coded-kept : CodedState w f → CodedKept kept y) (w₂ : WordRows) (f₂ : FloatRows)
      (back : state_from w₂ f₂ ≡ with_slot s₁ k (kept_slot kept y) (kept_shared kept))
      (coded-back : CodedState w₁ f₁ → CodedKept kept y → CodedState w₂ f₂) where
    same_again : (i : ℕ) → k ≡ i → ChangesOne s i s₁ → state_from w₂ f₂ ≡ s
    same_again i e change =
        back
        ∙ (ap (λ (x : ClockSlot). with_slot s₁ k x (kept_shared kept)) Slot-kept
        ∙ (ap (λ (x : SharedState). with_slot s₁ k (slot_at s k) x) (shared_kept ∙ shared_of w f)
        ∙ (ap (λ (j : ℕ). with_slot s₁ j (slot_at s j) s.shared) e
        ∙ (ap (λ (x : EngineState). with_slot x i (slot_at s i) s.shared) change.state
        ∙ put_back s i change.slot change.shared))))

    pub taken_back : a.number ≡ 0 → (i : ℕ) → k ≡ i → ChangesOne s i s₁ → TakenBack w f o w₂ f₂ a
    taken_back z i e change = record {
      taken = s₁;
      does = did.does;
      refused = λ n. absurd (n z);
      same = same_again i e change;
      coded = λ h. coded-back (did.coded h) (Coded-kept h);
    }
