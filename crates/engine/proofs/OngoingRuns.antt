-- A batch run between two inputs: as the contract of `run::answer_input` says it, and as the turns of a run are proved.
use mathlib.Core.Path.{◌≡◌, refl, sym, ◌∙◌, subst}
use Prim.Native.Nat.{ℕ, ◌<◌, ◌^◌}
use native.Mathlib.Omega.{arith}
use lib.ListN.{length, length-drop}
use Rattle.clocks.specs.Layout.{WordRows, FloatRows}
use Rattle.engine.specs.Engine.{Bytes}
use Rattle.engine.specs.StateRows.{state_from}
use Rattle.engine.specs.Run.{Ran}
use Rattle.engine.specs.RunInternals.{Reached, Ongoing, HasInput, AnswersInput, rest_of_run}
use Rattle.engine.specs.State.{EngineState}
use Rattle.engine.specs.declared.run.Progress.{Progress}
use Rattle.engine.proofs.RunTurns.{Input}
use Rattle.engine.proofs.RunUndos.{Deferred}

-- an engine in use, by another name of its journal's length
pub reached-length : (stream : Bytes) {n : ℕ} (m : ℕ) (s : EngineState) (j : Bytes) → n ≡ m → Reached stream n s j → Reached stream m s j
reached-length stream m s j e r = subst (λ (k : ℕ). Reached stream k s j) e r

module _ (commands stream : Bytes) {w : WordRows} {f : FloatRows} {journal answers : Bytes} {p : Progress} where
  -- the input there, in a run that gives what is left of it
  pub ongoing_input : (b : Ongoing commands stream w f journal answers p) → length journal < 2 ^ 63 → HasInput commands answers p
      → Input commands stream (length journal) (length answers) (rest_of_run commands stream b.state journal answers p) journal answers
      b.state p.answered p.read
  ongoing_input b bound h =
      let l = length-drop p.read commands in
      let wide = h.wide in
      let long = h.long in
      record {
        running = record {
          goes = refl;
          reached = b.reached;
          few = b.few;
          below = b.within;
          room = b.room;
          same_journal = refl;
          bound = bound;
          same_answers = refl;
        };
        more = omega arith;
        space = h.space;
        wide = wide;
        long = long;
      }

  -- the same, in the words of the contract
  module _ {n size : ℕ} {all : Ran} where
    abbrev pub deferred_ongoing :
        Deferred commands stream n size all journal answers (state_from w f) p.applied p.stale p.answered p.read
        → Ongoing commands stream w f journal answers p
    deferred_ongoing d = record {
      state = d.current;
      reached = reached-length stream (length journal) d.current journal (sym d.running.same_journal) d.running.reached;
      fresh = d.fresh;
      applied = d.counted;
      few = d.running.few;
      within = d.running.below;
      room = d.running.room;
    }

-- an input answered, by what is proved of its turn
pub input_answered : (commands stream : Bytes) (s : EngineState) {journal answers : Bytes} {p : Progress} {n size : ℕ} {w' : WordRows}
    {f' : FloatRows} {journal' answers' : Bytes} {p' : Progress}
    → Deferred commands stream n size (rest_of_run commands stream s journal answers p) journal' answers' (state_from w' f') p'.applied
    p'.stale p'.answered p'.read
    → p.read < p'.read → AnswersInput commands stream s journal answers p w' f' journal' answers' p'
input_answered commands stream s d l = record { ongoing = deferred_ongoing commands stream d; further = l; same = d.running.goes }

-- an input answered: the run goes on from there
pub goes_on_answered : (commands stream : Bytes) {n size : ℕ} {all : Ran} {journal answers : Bytes} {p : Progress} (s : EngineState)
    → Input commands stream n size all journal answers s p.answered p.read
    → {w' : WordRows} {f' : FloatRows} {journal' answers' : Bytes} {p' : Progress}
    → AnswersInput commands stream s journal answers p w' f' journal' answers' p'
    → length journal' ≡ n → length answers' ≡ size
    → Deferred commands stream n size all journal' answers' (state_from w' f') p'.applied p'.stale p'.answered p'.read
goes_on_answered commands stream {n} s x {journal' = journal'} a lj la =
    let b = a.ongoing in
    record {
      current = b.state;
      running = record {
        goes = a.same ∙ x.running.goes;
        reached = reached-length stream n b.state journal' lj b.reached;
        few = b.few;
        below = b.within;
        room = b.room;
        same_journal = lj;
        bound = x.running.bound;
        same_answers = la;
      };
      fresh = b.fresh;
      counted = b.applied;
    }
