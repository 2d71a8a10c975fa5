-- The outcome of a command in place, by the exits of its code: refused before the first store, or accepted.
use mathlib.Core.Path.{◌≡◌, refl, sym, subst}
use mathlib.Core.Bool.{Bool, true, false, cond, true≢false}
use mathlib.Core.List.{List}
use Prim.Native.Nat.{ℕ, ◌+◌, ◌≤◌}
use lib.ListN.{length}
use native.Mathlib.Omega.{arith}
use Rattle.std.proofs.Common.{Result, Ok, Err, Option, Some, None}
use Rattle.std.specs.Result.{IsOk, IsErrAnd, result_ok}
use Rattle.hazards.specs.Answers.{no_event}
use Rattle.hazards.specs.Refusals.{number}
use Rattle.hazards.specs.declared.answers.Answer.{Answer}
use Rattle.hazards.specs.declared.refusals.Refusal.{Refusal}
use Rattle.clocks.specs.Layout.{WordRows, FloatRows}
use Rattle.engine.specs.Engine.{Performed}
use Rattle.engine.specs.Refusals.{journal_full, refused_number, answer_from}
use Rattle.engine.specs.State.{EngineState}
use Rattle.engine.specs.Execution.{perform}
use Rattle.engine.specs.StateRows.{shared_from, state_from, Performs}
use Rattle.engine.specs.ExecutionInternals.{Tries}
use Rattle.hazards.proofs.RefusalLaws.{number_not_zero}
use Rattle.engine.proofs.PerformedInPlace.{performs_fits}
use Rattle.engine.proofs.Outcomes.{refused_as}

-- ---- room in the journal

pub has_room : (b : Bool) → 0 ≡ cond b 0 journal_full → b ≡ true
has_room true h = refl
has_room false h = absurd (omega arith)

module _ {w : WordRows} {f : FloatRows} {o : Performed EngineState Answer} (r : Result Answer Refusal) (refusal : Refusal)
    (h : IsErrAnd r (λ y. y ≡ refusal)) where
  pub refused_tries : Performs w f o w f (no_event (number refusal)) → Tries w f o w f r
  refused_tries p = rw (refused_as r h) (p, tt)

  pub refused_room : (b : Bool) → number refusal ≡ cond b 0 journal_full → (b ≡ false → Performs w f o w f (no_event journal_full))
      → Tries w f o w f r
  refused_room true q p = absurd (number_not_zero refusal q)
  refused_room false q p = rw (refused_as r h, q) (p refl, tt)

-- ---- the outcome as an option

module _ {w : WordRows} {f : FloatRows} {o : Performed EngineState Answer} {w' : WordRows} {f' : FloatRows} (r : Result Answer Refusal)
    (t : Tries w f o w' f' r) where
  abbrev Outcome : Result Answer Refusal → Option Answer → Type 0
  Outcome q (Some a) = Performs w f o w' f' a × (a.number ≡ 0)
  Outcome q None = Performs w f o w' f' (answer_from q) × ((answer_from q).number ≡ 0 → ⊥)

  read : Outcome r (result_ok r)
  read = go r t
    where
      go : (q : Result Answer Refusal) → Tries w f o w' f' q → Outcome q (result_ok q)
      go (Ok a) h = h
      go (Err refusal) h = (h.0, number_not_zero refusal)

  pub accepted : {a : Answer} → Some a ≡ result_ok r → Performs w f o w' f' a × (a.number ≡ 0)
  accepted h = subst (Outcome r) (sym h) read

  pub refused : None ≡ result_ok r → Performs w f o w' f' (answer_from r) × ((answer_from r).number ≡ 0 → ⊥)
  refused h = subst (Outcome r) (sym h) read

-- the number of its answer
pub numbered : {w : WordRows} {f : FloatRows} {o : Performed EngineState Answer} {w' : WordRows} {f' : FloatRows}
    (r : Result Answer Refusal) → Tries w f o w' f' r → refused_number r ≡ (answer_from r).number
numbered (Ok a) t = sym t.1
numbered (Err refusal) t = refl

-- an accepted command has room in the journal
pub tried_fits : (stream : List ℕ) (n : ℕ) (w : WordRows) (f : FloatRows) (c : List ℕ) (w' : WordRows) (f' : FloatRows)
    (r : Result Answer Refusal) → Tries w f (perform stream n (state_from w f) c) w' f' r → IsOk r
    → (shared_from w).applied_length + length c ≤ n
tried_fits stream n w f c w' f' (Ok a) t ok = performs_fits stream n w f c w' f' a t.0 t.1
tried_fits stream n w f c w' f' (Err refusal) t ok = absurd (true≢false (sym ok))
