-- Laws of a draw: its four ways, and what its number says of the position and the threshold.
-- Assumes nothing.
use mathlib.Core.Path.{◌≡◌, refl, sym, ap, subst, ◌∙◌}
use mathlib.Core.Bool.{Bool, true, false}
use mathlib.Core.List.{List}
use Prim.Native.Nat.{ℕ, ◌+◌, ◌<◌, ◌≤◌}
use native.Mathlib.Omega.{arith}
use lib.Dec.{ltb, eqb}
use borrow.Author.Tests.{lt-ltb, le-ltb, eq-eqb, ne_eqb, ltb-true, ltb-false, eqb-true, eqb-false}
use Rattle.hazards.specs.Floats.{is_threshold}
use Rattle.hazards.specs.Refusals.{number, invalid_state, stream_exhausted, bad_threshold}
use Rattle.std.specs.Prelude.{Err}
use Rattle.hazards.specs.Draws.{DrawAndPosition, stream_length, threshold_at, refused_draw, draw_at, with_position, draw_of, draw_and_position}
use Rattle.hazards.specs.declared.draws.StreamPosition.{StreamPosition}
use Rattle.hazards.specs.declared.refusals.Refusal.{Refusal}
use Rattle.hazards.proofs.RefusalLaws.{number_not_zero}

-- a draw that is not refused
abbrev pub accepted_draw : List ℕ → ℕ → DrawAndPosition
accepted_draw stream position = record { number = 0; threshold = threshold_at stream position; position = record { next = position + 1 } }

module _ (stream : List ℕ) (position : ℕ) where
  -- ---- the four ways
  pub draw_past : stream_length stream < position → draw_at stream position ≡ refused_draw invalid_state position
  unfolding draw_at
  draw_past h = rw (lt-ltb (stream_length stream) position h)

  pub draw_used_up : position ≡ stream_length stream → draw_at stream position ≡ refused_draw stream_exhausted position
  unfolding draw_at
  draw_used_up e = rw (le-ltb (stream_length stream) position (omega arith), eq-eqb position (stream_length stream) e)

  pub draw_bad : position < stream_length stream → is_threshold (threshold_at stream position) ≡ false
      → draw_at stream position ≡ refused_draw bad_threshold position
  unfolding draw_at
  draw_bad h e =
      rw (le-ltb (stream_length stream) position (omega arith), ne_eqb position (stream_length stream) (λ q. omega arith), e)

  pub draw_good : position < stream_length stream → is_threshold (threshold_at stream position) ≡ true
      → draw_at stream position ≡ accepted_draw stream position
  unfolding draw_at
  draw_good h e =
      rw (le-ltb (stream_length stream) position (omega arith), ne_eqb position (stream_length stream) (λ q. omega arith), e)

  -- ---- what holds of each of the four holds of the draw
  module _ (X : DrawAndPosition → Type 0)
      (past : stream_length stream < position → X (refused_draw invalid_state position))
      (used-up : position ≡ stream_length stream → X (refused_draw stream_exhausted position))
      (bad : position < stream_length stream → is_threshold (threshold_at stream position) ≡ false → X (refused_draw bad_threshold position))
      (good : position < stream_length stream → is_threshold (threshold_at stream position) ≡ true → X (accepted_draw stream position))
    where
      below : ltb (stream_length stream) position ≡ false → eqb position (stream_length stream) ≡ false → position < stream_length stream
      below e f = omega (arith, ltb-false (stream_length stream) position e, eqb-false position (stream_length stream) f)

      ways : (t u w : Bool) → ltb (stream_length stream) position ≡ t → eqb position (stream_length stream) ≡ u
          → is_threshold (threshold_at stream position) ≡ w → X (draw_at stream position)
      ways true u w e f g =
          let h = ltb-true (stream_length stream) position e in
          subst X (sym (draw_past h)) (past h)
      ways false true w e f g =
          let h = eqb-true position (stream_length stream) f in
          subst X (sym (draw_used_up h)) (used-up h)
      ways false false false e f g = subst X (sym (draw_bad (below e f) g)) (bad (below e f) g)
      ways false false true e f g = subst X (sym (draw_good (below e f) g)) (good (below e f) g)

      pub each_way : X (draw_at stream position)
      each_way =
          ways (ltb (stream_length stream) position) (eqb position (stream_length stream)) (is_threshold (threshold_at stream position))
          refl refl refl

  -- ---- the number
  abbrev pub draw_number : ℕ
  draw_number = (draw_at stream position).number

  -- ---- an accepted draw
  pub accepted_moves : draw_number ≡ 0 → (draw_at stream position).position.next ≡ position + 1
  accepted_moves =
      each_way (λ d. d.number ≡ 0 → d.position.next ≡ position + 1)
      (λ h e. omega arith) (λ h e. omega arith) (λ h w e. omega arith) (λ h w e. refl)

  pub accepted_within : draw_number ≡ 0 → (draw_at stream position).position.next ≤ stream_length stream
  accepted_within =
      each_way (λ d. d.number ≡ 0 → d.position.next ≤ stream_length stream)
      (λ h e. omega arith) (λ h e. omega arith) (λ h w e. omega arith) (λ h w e. omega arith)

  pub accepted_reads : draw_number ≡ 0 → (draw_at stream position).threshold ≡ threshold_at stream position
  accepted_reads =
      each_way (λ d. d.number ≡ 0 → d.threshold ≡ threshold_at stream position)
      (λ h e. absurd (omega arith)) (λ h e. absurd (omega arith)) (λ h w e. absurd (omega arith)) (λ h w e. refl)

  pub accepted_threshold : draw_number ≡ 0 → is_threshold (draw_at stream position).threshold ≡ true
  accepted_threshold =
      each_way (λ d. d.number ≡ 0 → is_threshold d.threshold ≡ true)
      (λ h e. absurd (omega arith)) (λ h e. absurd (omega arith)) (λ h w e. absurd (omega arith)) (λ h w e. w)

  -- ---- a refused draw
  pub refused_stays : (draw_number ≡ 0 → ⊥) → draw_at stream position ≡ refused_draw draw_number position
  refused_stays =
      each_way (λ d. (d.number ≡ 0 → ⊥) → d ≡ refused_draw d.number position)
      (λ h n. refl) (λ h n. refl) (λ h w n. refl) (λ h w n. absurd (n refl))

  pub refused_position : (draw_number ≡ 0 → ⊥) → (draw_at stream position).position.next ≡ position
  refused_position n = ap (λ (d : DrawAndPosition). d.position.next) (refused_stays n)

  -- the position that was lent and comes back with a refusal is the one that the definition gives
  pub refused_lent : (refusal : Refusal) (lent : StreamPosition) → with_position (draw_of (Err refusal)) lent ≡ draw_at stream position
      → draw_and_position position (Err refusal) ≡ draw_at stream position
  refused_lent refusal lent h =
      let e : number refusal ≡ draw_number = ap (λ (d : DrawAndPosition). d.number) h in
      ap (λ (r : ℕ). refused_draw r position) e ∙ sym (refused_stays (λ q. number_not_zero refusal (e ∙ q)))

  -- ---- any draw from within the stream ends within it
  pub draw_within : position ≤ stream_length stream → (draw_at stream position).position.next ≤ stream_length stream
  draw_within l =
      each_way (λ d. d.position.next ≤ stream_length stream) (λ h. l) (λ h. l) (λ h w. l) (λ h w. omega arith)
