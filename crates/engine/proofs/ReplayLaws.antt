-- One turn of the replay: the command at the front of the bytes, and what it leaves by what it does.
use mathlib.Core.Path.{◌≡◌, refl, sym, ap, ◌∙◌, subst}
use mathlib.Core.Bool.{Bool, true, false, cond}
use mathlib.Core.List.{List, []}
use mathlib.Core.Option.{none, some}
use Prim.Native.Nat.{ℕ, ◌-◌, ◌<◌, ◌≤◌}
use native.Mathlib.Omega.{arith}
use borrow.Author.Tests.{eqb-true, eqb-false, ltb-true, ltb-false, leb-true, leb-false, lt-ltb, le-ltb, le-leb, lt-leb, eq-eqb, ne_eqb}
use lib.Dec.{eqb, ltb, leb}
use lib.ListN.{length, take, drop, drop_of_length-le}
use lib.Seq.{length-take-le}
use Rattle.hazards.specs.declared.answers.Answer.{Answer}
use Rattle.hazards.proofs.Cases.{by_test}
use Rattle.engine.specs.Commands as commands
use Rattle.engine.specs.Commands.{width_of, front_refusal}
use Rattle.engine.specs.State.{EngineState}
use Rattle.engine.specs.Engine.{Bytes, Engine, rejected, performed, carry_out, code, cut, classify}
use Rattle.engine.specs.Execution.{perform}
use Rattle.engine.specs.Validation.{valid_state}
use Rattle.engine.specs.Instance.{engine_of}
use Rattle.engine.specs.ReplayInternals.{whole_width, command_at, width_after, ReplayEnd, ends, replay_from}
use Rattle.engine.proofs.SoundState.{SoundState}
use Rattle.engine.proofs.CommandLists.{Whole}
use Rattle.engine.proofs.Asking.{asks_no_command, asks_part, asks_undo, asks_command}
use Rattle.engine.proofs.RunStops.{end_whole}
use Rattle.engine.proofs.FrontRefusals.{BeginsWhole, front_whole as begins-whole}
use Rattle.engine.proofs.Replays.{cut_whole, replay_end}
use Rattle.engine.proofs.SoundValid.{sound_state_valid}

-- ---- the whole command at the front of the bytes

pub width_nothing : (i : Bytes) → length i ≤ 0 → whole_width i ≡ 0
unfolding whole_width
width_nothing i h = rw (le-ltb 0 (length i) h)

module _ (i : Bytes) (h : 0 < length i) where
  undo_wide : code i ≡ commands.undo → width_of (code i) ≡ 1
  unfolding width_of
  undo_wide e = rw e

  pub width_undo : code i ≡ commands.undo → whole_width i ≡ 0
  unfolding whole_width
  width_undo e = rw (lt-ltb 0 (length i) h, eq-eqb (code i) commands.undo e)

  module _ (other : code i ≡ commands.undo → ⊥) where
    pub width_whole : width_of (code i) ≤ length i → whole_width i ≡ width_of (code i)
    unfolding whole_width
    width_whole l = rw (lt-ltb 0 (length i) h, ne_eqb (code i) commands.undo other, le-leb (width_of (code i)) (length i) l)

    pub width_part : length i < width_of (code i) → whole_width i ≡ 0
    unfolding whole_width
    width_part l = rw (lt-ltb 0 (length i) h, ne_eqb (code i) commands.undo other, lt-leb (width_of (code i)) (length i) l)

  -- what its width says
  pub record Front (w : ℕ) : Type 0 where
    pub width : w ≡ width_of (code i)
    pub fits : w ≤ length i
    pub other : code i ≡ commands.undo → ⊥

  pub front : 0 < whole_width i → Front (whole_width i)
  unfolding whole_width
  front = go (ltb 0 (length i)) (eqb (code i) commands.undo) refl (leb (width_of (code i)) (length i)) refl
    where
      go : (b b₁ : Bool) → eqb (code i) commands.undo ≡ b₁ → (b₂ : Bool) → leb (width_of (code i)) (length i) ≡ b₂
          → 0 < cond b (cond b₁ 0 (cond b₂ (width_of (code i)) 0)) 0 → Front (cond b (cond b₁ 0 (cond b₂ (width_of (code i)) 0)) 0)
      go false b₁ e₁ b₂ e₂ q = absurd (omega arith)
      go true true e₁ b₂ e₂ q = absurd (omega arith)
      go true false e₁ true e₂ q = record { width = refl; fits = leb-true _ _ e₂; other = eqb-false _ _ e₁ }
      go true false e₁ false e₂ q = absurd (omega arith)

  pub no_front : (stream : List ℕ) (n : ℕ) (s : EngineState) → SoundState stream n s → whole_width i ≡ 0
      → command_at (engine_of stream n) s (classify (engine_of stream n) s i) ≡ none
  unfolding whole_width
  no_front stream n s g e =
      by_test (eqb (code i) commands.undo)
      (λ d.
      let u = undo_wide (eqb-true _ _ d) in
      ap (command_at E s) (asks_undo E s i v h (omega arith) (omega arith) (eqb-true _ _ d)))
      (λ d.
      by_test (leb (width_of (code i)) (length i))
      (λ f.
      let w : width_of (code i) ≡ 0 = rw (lt-ltb 0 (length i) h, d, f) at e in
      ap (command_at E s) (asks_no_command E s i v h (omega arith)))
      (λ f. let l = leb-false _ _ f in ap (command_at E s) (asks_part E s i v h (omega arith) l)))
    where
      E : Engine
      E = engine_of stream n

      v : valid_state stream n s ≡ true
      v = sound_state_valid s stream n g

-- by the number that the bytes are refused by
module _ (i : Bytes) (number : ℕ) (e : number ≡ front_refusal i) where
  pub begins : number ≡ 0 → BeginsWhole i
  begins = begins-whole [] 0 (engine_of [] 0).opened i number e

  pub width_refused : (number ≡ 0 → ⊥) → whole_width i ≡ 0
  width_refused z =
      by_test (ltb 0 (length i))
      (λ l.
      let h = ltb-true 0 (length i) l in
      by_test (eqb (code i) commands.undo) (λ u. width_undo i h (eqb-true _ _ u))
      (λ u.
      by_test (leb (width_of (code i)) (length i))
      (λ f.
      let long = leb-true (width_of (code i)) (length i) f in
      width_whole i h (eqb-false _ _ u) long
      ∙ by_test (ltb 0 (width_of (code i)))
      (λ w. absurd (z (e ∙ sym (end_whole i h (ltb-true 0 (width_of (code i)) w) long))))
      (λ w. let none = ltb-false 0 (width_of (code i)) w in omega arith))
      (λ f. width_part i h (eqb-false _ _ u) (leb-false (width_of (code i)) (length i) f))))
      (λ l. width_nothing i (ltb-false 0 (length i) l))

-- ---- one turn

module _ (stream : List ℕ) (n : ℕ) (s : EngineState) (g : SoundState stream n s) (i : Bytes) (h : 0 < length i) (w : ℕ)
    (e : w ≡ whole_width i) (pos : 0 < w) where
  abbrev c : Bytes
  c = take w i

  f : Front i h (whole_width i)
  f = front i h (rw e at pos)

  pub width_fits : w ≤ length i
  width_fits = rw (← e) at f.fits

  pub command-length : length c ≡ w
  command-length = length-take-le w i width_fits

  is_cut : cut (engine_of stream n) i ≡ c
  is_cut = rw (e, f.width)

  wide : 0 < width_of (code i)
  wide = let l = f.width in omega arith

  long : width_of (code i) ≤ length i
  long = let l = f.width in omega (arith, width_fits)

  pub front_whole : Whole (engine_of stream n) c
  front_whole = subst (Whole (engine_of stream n)) is_cut (cut_whole (engine_of stream n) i wide long f.other)

  asks : classify (engine_of stream n) s i ≡ carry_out c
  asks = asks_command (engine_of stream n) s i (sound_state_valid s stream n g) h wide long f.other ∙ ap carry_out is_cut

  -- by what the command does
  pub turn_rejects : (number : ℕ) → perform stream n s c ≡ rejected number
      → command_at (engine_of stream n) s (classify (engine_of stream n) s i) ≡ none
  turn_rejects number q = ap (command_at (engine_of stream n) s) asks ∙ ap (width_after (engine_of stream n) c) q

  pub turn_performs : (t : EngineState) (a : Answer) → perform stream n s c ≡ performed t a
      → command_at (engine_of stream n) s (classify (engine_of stream n) s i) ≡ some (t, w)
  turn_performs t a q =
      ap (command_at (engine_of stream n) s) asks
      ∙ ap (width_after (engine_of stream n) c) q
      ∙ ap (λ (k : ℕ). some (t, k)) command-length

-- ---- the replay's loop at the place `at`, with the rest of the bytes lent to it

module _ (stream : List ℕ) (n : ℕ) (bytes : Bytes) where
  abbrev E : Engine
  E = engine_of stream n

  -- what is left to replay
  abbrev pub replay_rest : EngineState → EngineState → ℕ → ℕ → ReplayEnd E
  replay_rest s before last at = replay_from E (length bytes - at) s before last at (drop at bytes)

  pub replay_ends : (s before : EngineState) (last at : ℕ) → length bytes ≤ at → replay_rest s before last at ≡ ends s before last
  replay_ends s before last at h = rw (drop_of_length-le bytes h) (replay_end E (length bytes - at) s before last at)
