-- The commands' codes and widths.
use mathlib.Core.Path.{◌≡◌, refl}
use Prim.Native.Nat.{ℕ, ◌<◌}
use borrow.Author.Tests.{ne_eqb}
use native.Mathlib.Omega.{arith}
use Rattle.std.proofs.Common.{Result, Ok, Err}
use Rattle.std.specs.Result.{IsOk}
use Rattle.std.proofs.lemmas.Result.{MatchResult-at_ok}
use Rattle.hazards.specs.declared.refusals.Refusal.{Refusal}
use Rattle.hazards.specs.declared.refusals.Refusal.TheVariants.{NoCommand}
use Rattle.engine.specs.Commands.{code_of, width_of, Decodes}
use Rattle.engine.specs.declared.commands.Command.{Command}
use Rattle.engine.specs.declared.commands.Command.TheVariants.{Create, Set, Remove, Reschedule, Pause, Resume, Deliver, Undo}

-- the bytes of a command
abbrev pub bytes_in : Command → ℕ
bytes_in Create = 33
bytes_in Set = 156
bytes_in Remove = 6
bytes_in Reschedule = 23
bytes_in Pause = 10
bytes_in Resume = 23
bytes_in Deliver = 1
bytes_in Undo = 1

pub width_named : (command : Command) → bytes_in command ≡ width_of (code_of command)
unfolding width_of
width_named Create = refl
width_named Set = refl
width_named Remove = refl
width_named Reschedule = refl
width_named Pause = refl
width_named Resume = refl
width_named Deliver = refl
width_named Undo = refl

-- no code has no bytes
pub width_none : (b : ℕ) → (b ≡ 1 → ⊥) → (b ≡ 2 → ⊥) → (b ≡ 3 → ⊥) → (b ≡ 4 → ⊥) → (b ≡ 5 → ⊥) → (b ≡ 6 → ⊥) → (b ≡ 7 → ⊥)
    → (b ≡ 8 → ⊥) → width_of b ≡ 0
unfolding width_of
width_none b n₁ n₂ n₃ n₄ n₅ n₆ n₇ n₈ =
    rw (ne_eqb b 1 n₁, ne_eqb b 2 n₂, ne_eqb b 3 n₃, ne_eqb b 4 n₄, ne_eqb b 5 n₅, ne_eqb b 6 n₆, ne_eqb b 7 n₇, ne_eqb b 8 n₈) refl

-- the code that was read
pub decoded : (b : ℕ) {r : Result Command Refusal} (command : Command) → Decodes b r → r ≡ Ok command → code_of command ≡ b
decoded b command d e =
    MatchResult-at_ok (λ k. code_of k ≡ b) (λ e. (e ≡ NoCommand) × (width_of b ≡ 0)) command e d

pub reads : (b : ℕ) (r : Result Command Refusal) → Decodes b r → 0 < width_of b → IsOk r
reads b (Ok command) d wide = refl
reads b (Err refusal) d wide = absurd (omega (arith, d.1, wide))
