-- Demand 3 holds of document 01's engine, for every threshold stream, every journal length and every list of inputs.
use mathlib.Core.Path.{◌≡◌, refl, ◌∙◌, ap}
use mathlib.Core.Bool.{true}
use mathlib.Core.List.{List, [], ◌∷◌}
use Prim.Native.Nat.{ℕ, ◌+◌, ◌<◌}
use native.Mathlib.Omega.{arith}
use lib.ListN.{length, length-append}
use Rattle.engine.specs.Commands as commands
use Rattle.engine.specs.Commands.{width_of}
use Rattle.engine.specs.Validation.{valid_state}
use Rattle.engine.specs.Engine.{Bytes, Engine, concat, undo_last, classify, Outcome}
use Rattle.engine.specs.Replay.{undo}
use Rattle.engine.specs.Sessions.{Session}
use Rattle.engine.specs.Instance.{engine_of, ledger_fields_of}
use Rattle.engine.specs.Demand3.{undo_reply, opened, session_after, Demand3}
use Rattle.engine.proofs.CommandLists.{AllWhole}
use Rattle.engine.proofs.SoundState.{SoundState}
use Rattle.engine.proofs.Supplied.{queueing_of}
use Rattle.engine.proofs.Applied.{Inv, inv_open, inv-all, journal-length, applied-part, only_applied, undo_accepted}
use Rattle.engine.proofs.Asking.{asks_undo, undo_nothing, execute_undo}
use Rattle.engine.proofs.Reached.{never_invalid}
use Rattle.engine.proofs.Balance.{balanced}
use Rattle.engine.proofs.ComparisonLaws.{state_same}
use Rattle.engine.proofs.EngineLaws.{engine_laws}
use Rattle.engine.proofs.SoundKept.{engine_sound, engine_queue}
use Rattle.engine.proofs.RunNumbers.{zero_accepted}

module _ (stream : List ℕ) (n : ℕ) (inputs : List Bytes) where
  abbrev E : Engine
  E = engine_of stream n

  abbrev u : Session E
  u = session_after stream n inputs

  valid : valid_state stream n u.state ≡ true
  valid = never_invalid E (SoundState stream n) (engine_sound stream n) n (engine_laws stream n) inputs

  -- UNDO, whatever follows its byte, is taken for one
  asks : (rest : Bytes) → classify E u.state (commands.undo ∷ rest) ≡ undo_last
  asks rest = asks_undo E u.state (commands.undo ∷ rest) valid (omega arith) (unfold width_of in omega arith)
      (unfold width_of in omega arith) refl

  inv : Inv E n (engine_laws stream n) u
  inv = inv-all E n (engine_laws stream n) (opened stream n inputs) inputs (inv_open E n (engine_laws stream n))

  undo_answered : (undo E u.state u.journal).reply ≡ undo_reply u.applied
  undo_answered = go u.applied inv.whole inv.counted
    where
      go : (cs : List Bytes) → AllWhole E cs → u.state.shared.applied_length ≡ length (concat cs)
          → (undo E u.state u.journal).reply ≡ undo_reply cs
      go [] w e = ap (λ (o : Outcome E). o.reply) (undo_nothing E u.state u.journal (omega arith))
      go (c ∷ cs) w e =
          let l : length (concat (c ∷ cs)) ≡ length c + length (concat cs) = length-append c (concat cs) in
          let p : 0 < u.state.shared.applied_length = omega (arith, w.0.pos) in
          undo_accepted E n (engine_laws stream n) state_same inputs p

  pub demand_3 : Demand3 stream n inputs
  demand_3 =
      let first = only_applied E n (engine_laws stream n) inputs in
      let second = balanced E (ledger_fields_of stream n) (queueing_of stream n) n (engine_laws stream n) (SoundState stream n) (engine_sound stream n)
      (engine_queue stream n) inputs in
      record {
        same-state = first.same-state;
        same_journal = first.same_journal;
        accepts_each = first.accepts_each;
        zero_accepted = λ input. zero_accepted stream n u.state u.journal input;
        journal-length = journal-length E n (engine_laws stream n) u inv;
        applied-part = applied-part E n (engine_laws stream n) u inv;
        balance = λ k. (second k).balance;
        at_most_one = λ k. (second k).at_most_one;
        valid = valid;
        undo-reply = λ rest.
            ap (λ (o : Outcome E). o.reply) (execute_undo E u.state u.journal (commands.undo ∷ rest) (asks rest)) ∙ undo_answered;
      }
