-- The opened state is sound, and a sound state passes refusal 1's test.
use mathlib.Core.Path.{◌≡◌, refl, sym}
use mathlib.Core.Bool.{true, true≢false}
use mathlib.Core.List.{List}
use Prim.Native.Nat.{ℕ, zero, suc}
use native.Mathlib.Omega.{arith}
use borrow.Author.Tests.{lt-ltb, le-leb, eq-eqb}
use lib.ListN.{get_or, replicate}
use Rattle.hazards.specs.Lists.{all}
use Rattle.hazards.specs.Draws.{stream_length}
use Rattle.clocks.proofs.Sound.{Each, none, next}
use Rattle.hazards.proofs.Cases.{by_test}
use Rattle.clocks.proofs.SoundValid.{sound_valid}
use Rattle.engine.specs.State.{empty_slot, slot_at, ClockSlot, EngineState}
use Rattle.engine.specs.Opening.{opened_state}
use Rattle.engine.specs.Validation.{valid_slot, valid_request, distinct, valid_queue, valid_shared, valid_state}
use Rattle.engine.specs.declared.state.Request.{Request}
use Rattle.engine.proofs.SoundState.{SoundSlot, SoundRequest, SoundState}

-- ---- opening

each_replicate : {A : Type 0} {P : A → Type 0} (n : ℕ) (a : A) → P a → Each P (replicate n a)
each_replicate zero a p = none
each_replicate (suc n) a p = next p (each_replicate n a p)

get_d_replicate : {A : Type 0} (n i : ℕ) (a : A) → get_or (replicate n a) i a ≡ a
get_d_replicate zero i a = refl
get_d_replicate (suc n) zero a = refl
get_d_replicate (suc n) (suc i) a = get_d_replicate n i a

pub opened_sound : (stream : List ℕ) (n : ℕ) → SoundState stream n opened_state
unfolding opened_state distinct
opened_sound stream n = record {
  slots = refl;
  clocks = each_replicate 16 empty_slot (λ h. absurd (true≢false (sym h)));
  places = refl;
  queued = omega arith;
  queue = record { requests = none; indices = refl; own = λ k. rw (get_d_replicate 16 k empty_slot) };
  position = omega arith;
  applied = omega arith;
  count = omega arith;
}

-- ---- refusal 1

slots_valid : {slots : List ClockSlot} → Each SoundSlot slots → all valid_slot slots ≡ true
unfolding all valid_slot
slots_valid none = refl
slots_valid (next {x} s ss) =
    by_test x.present (λ e. rw (e, sound_valid x.clock (s e), slots_valid ss)) (λ e. rw (e, slots_valid ss))

module _ (s : EngineState) where
  request_valid : (r : Request) → SoundRequest (slot_at s) s.shared.request_count r → valid_request s r ≡ true
  unfolding valid_request
  request_valid r g =
      rw (
        lt-ltb r.clock 16 g.clock,
        g.present,
        g.named,
        eq-eqb r.index r.index refl,
        g.winner,
        lt-ltb r.index s.shared.request_count g.index,
      )

  requests_valid : {q : List Request} → Each (SoundRequest (slot_at s) s.shared.request_count) q → all (valid_request s) q ≡ true
  unfolding all
  requests_valid none = refl
  requests_valid (next {x} g gs) = rw (request_valid x g, requests_valid gs)

  pub sound_state_valid : (stream : List ℕ) (n : ℕ) → SoundState stream n s → valid_state stream n s ≡ true
  unfolding valid_state valid_queue valid_shared
  sound_state_valid stream n g =
      let p = s.shared in
      rw (
        slots_valid g.clocks,
        le-leb p.queued 16 g.queued,
        requests_valid g.queue.requests,
        g.queue.indices,
        le-leb p.position (stream_length stream) g.position,
        le-leb p.applied_length n g.applied,
        le-leb p.request_count p.applied_length g.count,
      )
