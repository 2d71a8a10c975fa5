-- UNDO in a batch run changes the journal alone. The state is stale after it: it is replayed from the journal when a command needs it.
use mathlib.Core.Path.{◌≡◌, refl, sym, ap, ◌∙◌}
use mathlib.Core.Bool.{Bool, true, false, cond, true≢false}
use mathlib.Core.Option.{Option, some}
use Prim.Native.Nat.{ℕ, ◌+◌, ◌*◌, ◌<◌, ◌^◌}
use native.Mathlib.Omega.{arith}
use borrow.Author.Tests.{eqb-true, eqb-false}
use lib.Dec.{eqb}
use lib.ListN.{length, take, drop, replicate}
use Rattle.std.specs.Prelude as std
use Rattle.std.specs.Prelude.{Some, None}
use Rattle.hazards.specs.Answers.{answer_width, no_event, with_answer}
use Rattle.engine.specs.Commands as commands
use Rattle.engine.specs.Commands.{width_of}
use Rattle.engine.specs.Refusals.{nothing_applied}
use Rattle.engine.specs.Opening.{opened_state}
use Rattle.engine.specs.Engine.{Bytes, Engine, code}
use Rattle.engine.specs.Replay.{cleared, undo}
use Rattle.engine.specs.ReplayInternals.{ends, replay_all, state_if, end_state}
use Rattle.engine.specs.Instance.{engine_of}
use Rattle.engine.specs.Answers.{after}
use Rattle.engine.specs.Run.{Ran}
use Rattle.engine.specs.RunInternals.{opened_run}
use Rattle.engine.specs.State.{EngineState}
use Rattle.engine.proofs.Asking.{undo_nothing}
use Rattle.engine.proofs.RunStates.{reached_undo, reached_replays, replay_nothing}
use Rattle.engine.proofs.RunTurns.{leaving, Running, Input, running_begins, next_undo}

by_some : (state s : EngineState) (ok : std.Option Unit) → ◌≡◌ {A = Option EngineState} (state_if ok state) (some s) → state ≡ s
by_some state s (Some _) e = cc
by_some state s None e = let z : ◌≡◌ {A = ℕ} 0 1 = cc in absurd (omega arith)

module _ (bytes stream : Bytes) (n size : ℕ) (all : Ran) where
  abbrev E : Engine
  E = engine_of stream n

  -- a run whose definition is in the state `current`: that is the state in the code where it is not stale
  pub record Deferred (j answers : Bytes) (state : EngineState) (applied : ℕ) (stale : Bool) (count at : ℕ) : Type 0 where
    pub current : EngineState
    pub running : Running bytes stream n size all j answers current count at
    pub fresh : stale ≡ false → state ≡ current
    pub counted : applied ≡ current.shared.applied_length

  -- the state that the run goes on in, where it is not stale
  pub goes_on_in : {j answers : Bytes} {s : EngineState} {count at : ℕ} → Running bytes stream n size all j answers s count at
      → (applied : ℕ) → applied ≡ s.shared.applied_length → (stale : Bool) → Deferred j answers s applied stale count at
  goes_on_in {s = s} r applied counted stale = record { current = s; running = r; fresh = λ e. refl; counted = counted }

  -- what the code replays is the state of the definition
  pub replayed_current : {j answers : Bytes} {s : EngineState} {count at : ℕ} → Running bytes stream n size all j answers s count at
      → (applied : ℕ) → applied ≡ s.shared.applied_length → (state : EngineState) (ok : std.Option Unit)
      → state_if ok state ≡ end_state stream n (replay_all E (take applied j)) → state ≡ s
  replayed_current {j = j} {s = s} r applied counted state ok e =
      let own = reached_replays stream n s j r.reached in
      let all : replay_all E (take applied j) ≡ ends s own.before own.last =
      ap (λ (k : ℕ). replay_all E (take k j)) counted ∙ own.ending in
      by_some state s ok (e ∙ ap (end_state stream n) all)

  module _ {j answers : Bytes} {s : EngineState} {count at : ℕ} (x : Input bytes stream n size all j answers s count at)
      (w : ℕ) (ew : w ≡ width_of (code (drop at bytes))) (u : code (drop at bytes) ≡ commands.undo) (applied : ℕ)
      (counted : applied ≡ s.shared.applied_length) {k written : Bytes} {r : ℕ}
      (place : (v : Bytes) (m : ℕ) (t before : EngineState) (last : ℕ) → replay_all (engine_of v m) (take applied j) ≡ ends t before last
      → r ≡ last)
      (journal : (v : Bytes) → k ≡ cleared (engine_of v (length j)) j r applied) (lk : length k ≡ n) (lw : length written ≡ size)
      (state : EngineState) where
    nothing_undone : applied ≡ 0 → written ≡ with_answer answers (answer_width * count) (no_event nothing_applied)
        → Deferred k written state r true (count + 1) (at + w)
    nothing_undone z q =
        let er : r ≡ 0 = place stream n opened_state opened_state 0
        (ap (λ (m : ℕ). replay_all E (take m j)) z ∙ replay_nothing stream n) in
        let ek : k ≡ j = journal stream ∙ λ i. cleared E j (er i) (z i) in
        record {
          current = s;
          running =
              next_undo bytes stream n size all x w ew u (no_event nothing_applied) s
              (ap (leaving (no_event nothing_applied) s) ek
              ∙ sym (ap (after stream (length j)) (undo_nothing (engine_of stream (length j)) s j (omega (arith, counted, z)))))
              q lk lw;
          fresh = λ e. absurd (true≢false e);
          counted = er ∙ sym z ∙ counted;
        }

    last_undone : 0 < applied → written ≡ with_answer answers (answer_width * count) (no_event 0)
        → Deferred k written state r true (count + 1) (at + w)
    last_undone p q =
        let own = reached_undo stream n s j x.running.reached (omega (arith, counted, p)) in
        let er : r ≡ own.last =
        place stream n s own.before own.last (ap (λ (m : ℕ). replay_all E (take m j)) counted ∙ own.ending) in
        let ek : k ≡ cleared E j own.last s.shared.applied_length =
        journal stream ∙ λ i. cleared E j (er i) (counted i) in
        record {
          current = own.before;
          running =
              next_undo bytes stream n size all x w ew u (no_event 0) own.before
              (ap (leaving (no_event 0) own.before) ek
              ∙ sym
              (ap (λ (m : ℕ). after stream m (undo (engine_of stream m) s j)) x.running.same_journal
              ∙ ap (after stream n) own.outcome))
              q lk lw;
          fresh = λ e. absurd (true≢false e);
          counted = er ∙ sym own.counted;
        }

    pub next_deferred : written ≡ with_answer answers (answer_width * count) (no_event (cond (eqb applied 0) nothing_applied 0))
        → Deferred k written state r true (count + 1) (at + w)
    next_deferred q = go (eqb applied 0) refl
      where
        by : Bool → Bytes
        by b = with_answer answers (answer_width * count) (no_event (cond b nothing_applied 0))

        go : (b : Bool) → eqb applied 0 ≡ b → Deferred k written state r true (count + 1) (at + w)
        go true e = nothing_undone (eqb-true applied 0 e) (q ∙ ap by e)
        go false e =
            let some = eqb-false applied 0 e in
            last_undone (omega (arith, some)) (q ∙ ap by e)

opened-length : opened_state.shared.applied_length ≡ 0
unfolding opened_state
opened-length = refl

-- at opening
pub deferred_begins : (bytes stream : Bytes) (n : ℕ) (answers : Bytes) {s : EngineState} → s ≡ opened_state
    → {j : Bytes} → j ≡ replicate n 0 → n < 2 ^ 63
    → Deferred bytes stream n (length answers) (opened_run bytes stream n answers) j answers s 0 false 0 0
deferred_begins bytes stream n answers {s} es ej bound =
    goes_on_in bytes stream n (length answers) (opened_run bytes stream n answers)
    (running_begins bytes stream n answers es ej bound) 0
    (sym (ap (λ (t : EngineState). t.shared.applied_length) es ∙ opened-length)) false
