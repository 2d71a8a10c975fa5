-- The states that a batch run reaches: each is one of an engine in use, so it is sound, and the replay of its applied commands ends in it.
use mathlib.Core.Path.{◌≡◌, refl, ap, ◌∙◌, subst}
use mathlib.Core.List.{List, [], ◌∷◌, ◌++◌}
use Prim.Native.Nat.{ℕ, ◌<◌}
use lib.ListN.{length, replicate, take}
use Rattle.engine.specs.Opening.{opened_state}
use Rattle.engine.specs.Engine.{Bytes, Engine, Outcome, reverted, completed, concat, init}
use Rattle.engine.specs.Replay.{cleared, undo}
use Rattle.engine.specs.Execute.{execute}
use Rattle.engine.specs.ReplayInternals.{ends, replay_all}
use Rattle.engine.specs.Sessions.{Session, feed, feed_all, new_session}
use Rattle.engine.specs.Instance.{engine_of}
use Rattle.engine.specs.Demand3.{session_after}
use Rattle.engine.specs.RunInternals.{Reached}
use Rattle.hazards.specs.declared.answers.Answer.{Answer}
use Rattle.engine.specs.State.{EngineState}
use Rattle.engine.proofs.SoundState.{SoundState}
use Rattle.engine.proofs.Applied.{Inv, inv_open, inv-all, AppliedReplay, applied_replay, rest_counted, reverts, taken_back}
use Rattle.engine.proofs.ComparisonLaws.{state_same}
use Rattle.engine.proofs.Reached.{sound_replay}
use Rattle.engine.proofs.Replays.{replay_end}
use Rattle.engine.proofs.EngineLaws.{engine_laws}
use Rattle.engine.proofs.SoundKept.{engine_sound}

module _ (stream : Bytes) (n : ℕ) where
  abbrev E : Engine
  E = engine_of stream n

  pub reached_open : Reached stream n opened_state (replicate n 0)
  unfolding new_session feed_all
  reached_open = record { inputs = []; state = refl; journal = refl }

  pub replay_nothing : replay_all E [] ≡ ends opened_state opened_state 0
  unfolding replay_all
  replay_nothing = replay_end E 0 opened_state opened_state 0 0

  pub inv_sound : (u : Session E) → Inv E n (engine_laws stream n) u → SoundState stream n u.state
  inv_sound u h =
      sound_replay E (SoundState stream n) (engine_sound stream n) opened_state u.applied u.state h.whole h.ran
      (engine_sound stream n).opens

  -- one more input at the end
  feed_last : (u : Session E) (is : List Bytes) (i : Bytes) → feed_all E u (is ++ (i ∷ [])) ≡ feed E (feed_all E u is) i
  unfolding feed_all
  feed_last u [] i = refl
  feed_last u (k ∷ is) i = feed_last (feed E u k) is i

  module _ (s : EngineState) (j : Bytes) (r : Reached stream n s j) where
    abbrev after : Session E
    after = session_after stream n r.inputs

    abbrev session : Session E
    session = record { state = s; journal = j; applied = after.applied }

    -- what holds of an engine in use
    inv : Inv E n (engine_laws stream n) session
    inv =
        subst (λ (x : EngineState). Inv E n (engine_laws stream n) (record { state = x; journal = j; applied = after.applied })) r.state
        (subst (λ (x : Bytes). Inv E n (engine_laws stream n) (record { state = after.state; journal = x; applied = after.applied }))
        r.journal
        (inv-all E n (engine_laws stream n) (new_session E n) r.inputs (inv_open E n (engine_laws stream n))))

    pub reached_next : (i : Bytes) (o : Outcome E) → execute E s j i ≡ o → Reached stream n o.state o.journal
    unfolding feed
    reached_next i o e =
        let outcome : execute E after.state after.journal i ≡ o = (λ x. execute E (r.state x) (r.journal x) i) ∙ e in
        let last = feed_last (new_session E n) r.inputs i in
        record {
          inputs = r.inputs ++ (i ∷ []);
          state = ap (λ (u : Session E). u.state) last ∙ ap (λ (x : Outcome E). x.state) outcome;
          journal = ap (λ (u : Session E). u.journal) last ∙ ap (λ (x : Outcome E). x.journal) outcome;
        }

    pub reached_sound : SoundState stream n s
    reached_sound = inv_sound session inv

    -- an accepted command that UNDO reverts at once
    pub reached_back : (i : Bytes) (a : Answer) (t : EngineState) (k : Bytes)
        → execute E s j i ≡ record { reply = completed a; state = t; journal = k }
        → undo E t k ≡ record { reply = reverted; state = s; journal = j }
    reached_back i a t k e = taken_back E n (engine_laws stream n) state_same session i a t k inv e

    -- what UNDO gives where something is applied: the state before the last command, which was at the place `last`
    pub record Undone : Type 0 where
      pub before : EngineState
      pub last : ℕ
      pub ending : replay_all E (take s.shared.applied_length j) ≡ ends s before last
      pub outcome : undo E s j ≡ record { reply = reverted; state = before; journal = cleared E j last s.shared.applied_length }
      pub counted : before.shared.applied_length ≡ last

    pub reached_undo : 0 < s.shared.applied_length → Undone
    reached_undo p =
        let d : AppliedReplay E n (engine_laws stream n) session =
        applied_replay E n (engine_laws stream n) session inv in
        record {
          before = d.rest;
          last = length (concat (init after.applied));
          ending = d.scans;
          outcome = reverts E n (engine_laws stream n) state_same session inv d p;
          counted = rest_counted E n (engine_laws stream n) session inv d;
        }

    -- the replay of the applied commands ends in the state
    pub record Replays : Type 0 where
      pub before : EngineState
      pub last : ℕ
      pub ending : replay_all E (take s.shared.applied_length j) ≡ ends s before last

    pub reached_replays : Replays
    reached_replays =
        let d : AppliedReplay E n (engine_laws stream n) session = applied_replay E n (engine_laws stream n) session inv in
        record { before = d.rest; last = length (concat (init after.applied)); ending = d.scans }
