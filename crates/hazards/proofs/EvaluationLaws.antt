-- The number of an evaluation's refusal, and an evaluation that is refused or not by that number.
use mathlib.Core.Path.{◌≡◌, sym, ◌∙◌, ap}
use mathlib.Core.Bool.{Bool}
use Prim.Native.Nat.{ℕ}
use borrow.Author.Tests.{eq-eqb, ne_eqb}
use lib.Ieee.{Float}
use Rattle.hazards.specs.Checks.{hazard_of, intervals_of}
use Rattle.hazards.specs.Evaluations.{Evaluation, valued, without_value, evaluation_refusal, unless_refused}
use Rattle.hazards.specs.declared.checks.HazardFields.{HazardFields}
use Rattle.hazards.specs.declared.rates.HazardRate.{HazardRate}
use Rattle.hazards.specs.declared.rates.Intervals.{Intervals}

module _ {A : Type 0} (without : ℕ → A) where
  unless_zero : (n : ℕ) (e : A) → n ≡ 0 → unless_refused without n e ≡ e
  unless_zero n e h = rw (eq-eqb n 0 h)

  unless_other : (n : ℕ) (e : A) → (n ≡ 0 → ⊥) → unless_refused without n e ≡ without n
  unless_other n e h = rw (ne_eqb n 0 h)

-- the number is that of the fields, with limits that were tested as a program's value
module _ (f : HazardFields) {limits ok : Bool} {number : ℕ} (numbered : number ≡ evaluation_refusal f ok) (tested : ok ≡ limits) where
  in-limits : number ≡ evaluation_refusal f limits
  in-limits = numbered ∙ ap (evaluation_refusal f) tested

  pub refused : {A : Type 0} (without : ℕ → A) (e : A) {r : A} → (number ≡ 0 → ⊥) → r ≡ without number
      → r ≡ unless_refused without (evaluation_refusal f limits) e
  refused without e h w = w ∙ sym (unless_other without number e h) ∙ ap (λ (n : ℕ). unless_refused without n e) in-limits

  pub evaluated : {A : Type 0} (without : ℕ → A) (e : A) {r : A} → number ≡ 0 → r ≡ e
      → r ≡ unless_refused without (evaluation_refusal f limits) e
  evaluated without e h w = w ∙ sym (unless_zero without number e h) ∙ ap (λ (n : ℕ). unless_refused without n e) in-limits

  -- the value of the fields' hazard at a time
  pub evaluated_at : (value : HazardRate → Intervals → Float → Float) (t : Float) {h : HazardRate} {x : Float} {r : Evaluation}
      → number ≡ 0 → h ≡ hazard_of f → x ≡ value h (intervals_of f) t → r ≡ valued x
      → r ≡ unless_refused without_value (evaluation_refusal f limits) (valued (value (hazard_of f) (intervals_of f) t))
  evaluated_at value t n eh ex er =
      evaluated without_value (valued (value (hazard_of f) (intervals_of f) t)) n
      (er ∙ ap valued (ex ∙ ap (λ (k : HazardRate). value k (intervals_of f) t) eh))
