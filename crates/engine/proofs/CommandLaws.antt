-- What the faults of a command are, from what is known of their parts; and codes that are no command's.
use mathlib.Core.Path.{◌≡◌, ◌∙◌, ap₂}
use Prim.Native.Nat.{ℕ}
use borrow.Author.Tests.{ne_eqb}
use Rattle.hazards.specs.Refusals.{joined}
use Rattle.hazards.specs.declared.refusals.Faults.{Faults}
use Rattle.engine.specs.Commands as commands
use Rattle.engine.specs.Commands.{width_of}

pub joined_both : {r a b f g : Faults} → r ≡ joined a b → a ≡ f → b ≡ g → r ≡ joined f g
joined_both e p q = e ∙ ap₂ joined p q

-- a code that is no command's has no width
pub no_width : (k : ℕ) → (k ≡ commands.create → ⊥) → (k ≡ commands.set → ⊥) → (k ≡ commands.remove → ⊥)
    → (k ≡ commands.reschedule → ⊥) → (k ≡ commands.pause → ⊥) → (k ≡ commands.resume → ⊥)
    → (k ≡ commands.deliver → ⊥) → (k ≡ commands.undo → ⊥) → width_of k ≡ 0
unfolding width_of
no_width k h₁ h₂ h₃ h₄ h₅ h₆ h₇ h₈ =
    rw (
      ne_eqb k commands.create h₁,
      ne_eqb k commands.set h₂,
      ne_eqb k commands.remove h₃,
      ne_eqb k commands.reschedule h₄,
      ne_eqb k commands.pause h₅,
      ne_eqb k commands.resume h₆,
      ne_eqb k commands.deliver h₇,
      ne_eqb k commands.undo h₈,
    )
