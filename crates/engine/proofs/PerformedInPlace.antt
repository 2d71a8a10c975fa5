-- What the answer of a command in place says of the definition: accepted by number 0, refused by any other.
use mathlib.Core.Path.{◌≡◌, sym, ◌∙◌, ap}
use mathlib.Core.Bool.{Bool, cond}
use mathlib.Core.List.{List}
use Prim.Native.Nat.{ℕ, ◌+◌, ◌≤◌}
use borrow.Author.Tests.{eq-eqb, ne_eqb}
use lib.ListN.{length}
use Rattle.hazards.specs.declared.answers.Answer.{Answer}
use Rattle.clocks.specs.Layout.{WordRows, FloatRows}
use Rattle.engine.specs.Engine.{Performed, rejected, performed}
use Rattle.engine.specs.Execution.{perform}
use Rattle.engine.specs.StateRows.{performed_of, shared_from, state_from, Performs}
use Rattle.engine.specs.State.{EngineState}
use Rattle.engine.proofs.EngineLaws.{engine_laws}

module _ (t : EngineState) (a : Answer) {o : Performed EngineState Answer} (e : performed_of t a ≡ o) where
  abbrev by_number : Bool → Performed EngineState Answer
  by_number b = cond b (performed t a) (rejected a.number)

  pub is_performed : a.number ≡ 0 → o ≡ performed t a
  is_performed z = sym e ∙ ap by_number (eq-eqb a.number 0 z)

  pub is_rejected : (a.number ≡ 0 → ⊥) → o ≡ rejected a.number
  is_rejected z = sym e ∙ ap by_number (ne_eqb a.number 0 z)

pub shared_read : (w : WordRows) (f : FloatRows) → (state_from w f).shared ≡ shared_from w
unfolding state_from
shared_read w f = λ i. shared_from w

-- an accepted command has room in the journal
pub performs_fits : (stream : List ℕ) (n : ℕ) (w : WordRows) (f : FloatRows) (c : List ℕ) (w' : WordRows) (f' : FloatRows) (a : Answer)
    → Performs w f (perform stream n (state_from w f) c) w' f' a → a.number ≡ 0 → (shared_from w).applied_length + length c ≤ n
performs_fits stream n w f c w' f' a p z =
    rw (shared_read w f) at
    ((engine_laws stream n).fits (state_from w f) (state_from w' f') c a (is_performed (state_from w' f') a p.does z))
