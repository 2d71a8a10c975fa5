-- A valid state in lent memory is ready for a command: its counts are small, and the next request's clock is there.
use mathlib.Core.Path.{◌≡◌, ap, ◌∙◌, subst}
use mathlib.Core.Logic.{inl, inr}
use mathlib.Core.Bool.{Bool, true, ◌&&◌}
use mathlib.Core.List.{List, [], ◌∷◌}
use mathlib.Core.Option.{Option, some}
use Prim.Native.Nat.{ℕ, ◌<◌, ◌^◌}
use native.Mathlib.Omega.{arith}
use borrow.Author.Tests.{ltb-true}
use lib.Dec.{ltb, leb}
use Rattle.hazards.specs.Lists.{all}
use Rattle.hazards.proofs.Cases.{both_true}
use Rattle.clocks.specs.Layout.{WordRows, FloatRows}
use Rattle.engine.specs.State.{slot_at, queued_requests, EngineState}
use Rattle.engine.specs.Queue.{next_request}
use Rattle.engine.specs.Validation.{valid_slot, valid_request, distinct, valid_queue, valid_shared, valid_state}
use Rattle.engine.specs.StateRows.{state_from, SizedState}
use Rattle.engine.specs.ExecutionInternals.{Ready}
use Rattle.engine.specs.declared.state.Request.{Request}
use Rattle.engine.proofs.RequestLists.{In}
use Rattle.engine.proofs.Picks.{Best, next_best}
use Rattle.engine.proofs.SoundState.{SoundState}
use Rattle.engine.proofs.SoundValid.{sound_state_valid}
use Rattle.engine.proofs.ExecuteLaws.{Within, valid_within}

-- the next request is one of the queue
pub next_in : (q : List Request) (r : Request) → next_request q ≡ some r → In r q
next_in q r e = (subst (λ (o : Option Request). Best o (λ y. In y q)) e (next_best q)).0

-- each of a list passes a test that all of it do
pub all_in : (p : Request → Bool) (q : List Request) (r : Request) → all p q ≡ true → In r q → p r ≡ true
unfolding all
all_in p [] r h i = absurd i
all_in p (x ∷ xs) r h (inl e) = ap p e ∙ (both_true (p x) (all p xs) h).0
all_in p (x ∷ xs) r h (inr i) = all_in p xs r (both_true (p x) (all p xs) h).1 i

module _ (stream : List ℕ) (n : ℕ) (s : EngineState) (v : valid_state stream n s ≡ true) where
  queue_valid : all (valid_request s) (queued_requests s.shared) ≡ true
  unfolding valid_state valid_queue
  queue_valid =
      let q = both_true (all valid_slot s.slots) (valid_queue s && valid_shared stream n s.shared) v in
      let r = both_true (valid_queue s) (valid_shared stream n s.shared) q.1 in
      let a = all (valid_request s) (queued_requests s.shared) in
      let d = distinct (queued_requests s.shared) in
      (both_true a d (both_true (leb s.shared.queued 16) (a && d) r.0).1).0

  module _ (r : Request) (e : next_request (queued_requests s.shared) ≡ some r) where
    next_valid : valid_request s r ≡ true
    next_valid = all_in (valid_request s) (queued_requests s.shared) r queue_valid (next_in (queued_requests s.shared) r e)

    pub next_below : r.clock < 16
    unfolding valid_request
    next_below = ltb-true r.clock 16 (both_true (ltb r.clock 16) _ next_valid).0

    pub next_there : (slot_at s r.clock).present ≡ true
    unfolding valid_request
    next_there = (both_true (slot_at s r.clock).present _ (both_true (ltb r.clock 16) _ next_valid).1).0

module _ (stream : List ℕ) (n : ℕ) (w : WordRows) (f : FloatRows) (sized : SizedState w f) (small : n < 2 ^ 63) where
  pub valid_ready : valid_state stream n (state_from w f) ≡ true → Ready w f
  unfolding state_from
  valid_ready v =
      let s = state_from w f in
      let within : Within n s.shared = valid_within stream n s v in
      record {
        sized = sized;
        counts = record { places = within.queued; requests = omega (arith, within.applied, within.requests, small) };
        next = λ r e. next_below stream n s v r e;
        there = λ r e. next_there stream n s v r e;
      }

  pub sound_ready : SoundState stream n (state_from w f) → Ready w f
  sound_ready g = valid_ready (sound_state_valid (state_from w f) stream n g)
