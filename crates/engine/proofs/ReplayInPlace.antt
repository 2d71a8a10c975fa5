-- The replay in lent memory: a turn of its loop, by the answer of the command in place.
use mathlib.Core.Path.{◌≡◌, sym, ap, ◌∙◌, subst}
use mathlib.Core.List.{List}
use Prim.Native.Nat.{ℕ, ◌+◌, ◌<◌, ◌≤◌, ◌^◌}
use native.Mathlib.Nat.{sub-zero}
use native.Mathlib.Omega.{arith}
use lib.ListN.{length, drop, length-drop}
use Rattle.hazards.specs.declared.answers.Answer.{Answer}
use Rattle.clocks.specs.Layout.{WordRows, FloatRows}
use Rattle.engine.specs.Opening.{opened_state}
use Rattle.engine.specs.Engine.{Bytes, Engine, performed}
use Rattle.engine.specs.Execution.{perform}
use Rattle.engine.specs.Instance.{engine_of}
use Rattle.engine.specs.ReplayInternals.{whole_width, fails, ends, replay_all}
use Rattle.engine.specs.StateRows.{state_from, SizedState, CodedState, Performs}
use Rattle.engine.specs.ExecutionInternals.{Ready}
use Rattle.engine.specs.State.{EngineState}
use Rattle.engine.proofs.SoundState.{SoundState}
use Rattle.engine.proofs.SoundValid.{opened_sound}
use Rattle.engine.proofs.SoundKept.{engine_sound}
use Rattle.engine.proofs.CommandLists.{Whole}
use Rattle.engine.proofs.JournalBytes.{rest_of, part_of, part-all, part-of}
use Rattle.engine.proofs.Asking.{replay-fails, replay_turn}
use Rattle.engine.proofs.ReplayLaws.{no_front, width_fits, front_whole, turn_rejects, turn_performs, replay_rest, replay_ends}
use Rattle.engine.proofs.PerformedInPlace.{is_performed, is_rejected}
use Rattle.engine.proofs.ReadyStates.{sound_ready}

module _ (stream : List ℕ) (n : ℕ) (bytes : Bytes) where
  abbrev E : Engine
  E = engine_of stream n

  -- a replay at the place `at` with its state in the rows: what is left of it ends as the whole
  pub record Replaying (w : WordRows) (f : FloatRows) (at : ℕ) : Type 0 where
    pub prior : EngineState
    pub last : ℕ
    pub goes : replay_rest stream n bytes (state_from w f) prior last at ≡ replay_all E bytes
    pub within : at ≤ length bytes
    pub sound : SoundState stream n (state_from w f)
    pub coded : CodedState w f
    pub sized : SizedState w f

  from-opening : replay_rest stream n bytes opened_state opened_state 0 0 ≡ replay_all E bytes
  unfolding replay_all
  from-opening = rw sub-zero

  pub begins : (w : WordRows) (f : FloatRows) → state_from w f ≡ opened_state → CodedState w f → SizedState w f → Replaying w f 0
  begins w f e coded sized = record {
    prior = opened_state;
    last = 0;
    goes = rw e from-opening;
    within = omega arith;
    sound = rw e (opened_sound stream n);
    coded = coded;
    sized = sized;
  }

  module _ (w : WordRows) (f : FloatRows) (at : ℕ) (r : Replaying w f at) where
    abbrev s : EngineState
    s = state_from w f

    pub ended : length bytes ≤ at → replay_all E bytes ≡ ends s r.prior r.last
    ended h = sym r.goes ∙ replay_ends stream n bytes s r.prior r.last at h

    -- the width of the whole command at its place
    module _ (more : at < length bytes) (k : ℕ) (e : k ≡ whole_width (rest_of bytes at)) where
      rest_pos : 0 < length (drop at bytes)
      rest_pos = omega (arith, length-drop at bytes)

      width : k ≡ whole_width (drop at bytes)
      width = e ∙ ap whole_width (part-all bytes at)

      pub nothing_whole : k ≡ 0 → replay_all E bytes ≡ fails
      nothing_whole z =
          sym r.goes
          ∙ replay-fails E _ s r.prior r.last at (drop at bytes) rest_pos
          (no_front (drop at bytes) rest_pos stream n s r.sound (sym width ∙ z))

      module _ (pos : 0 < k) where
        abbrev command : Bytes
        command = part_of bytes at k

        pub command_within : at + k ≤ length bytes
        command_within =
            omega (arith, length-drop at bytes, width_fits stream n s r.sound (drop at bytes) rest_pos k width pos)

        pub command_whole : Whole E command
        command_whole =
            subst (Whole E) (sym (part-of bytes at k)) (front_whole stream n s r.sound (drop at bytes) rest_pos k width pos)

        pub command_ready : n < 2 ^ 63 → Ready w f
        command_ready small = sound_ready stream n w f r.sized small r.sound

        -- by its answer
        module _ (w' : WordRows) (f' : FloatRows) (a : Answer) (did : Performs w f (perform stream n s command) w' f' a) where
          pub refused_fails : (a.number ≡ 0 → ⊥) → replay_all E bytes ≡ fails
          refused_fails z =
              sym r.goes
              ∙ replay-fails E _ s r.prior r.last at (drop at bytes) rest_pos
              (turn_rejects stream n s r.sound (drop at bytes) rest_pos k width pos a.number
              (ap (perform stream n s) (sym (part-of bytes at k)) ∙ is_rejected (state_from w' f') a did.does z))

          module _ (z : a.number ≡ 0) where
            done : perform stream n s command ≡ performed (state_from w' f') a
            done = is_performed (state_from w' f') a did.does z

            one_turn : replay_rest stream n bytes (state_from w' f') s at (at + k) ≡ replay_all E bytes
            one_turn =
                sym
                (replay_turn E bytes s r.prior r.last at (state_from w' f', k) more
                (turn_performs stream n s r.sound (drop at bytes) rest_pos k width pos (state_from w' f') a
                (ap (perform stream n s) (sym (part-of bytes at k)) ∙ done)))
                ∙ r.goes

            pub goes_on : SizedState w' f' → Replaying w' f' (at + k)
            goes_on sized = record {
              prior = s;
              last = at;
              goes = one_turn;
              within = command_within;
              sound = (engine_sound stream n).keeps s (state_from w' f') command a command_whole r.sound done;
              coded = did.coded r.coded;
              sized = sized;
            }

            -- it is the last
            pub ends_here : length bytes ≤ at + k → replay_all E bytes ≡ ends (state_from w' f') s at
            ends_here h = sym one_turn ∙ replay_ends stream n bytes (state_from w' f') s at (at + k) h
