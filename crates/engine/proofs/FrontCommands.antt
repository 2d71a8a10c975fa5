-- What the command at the front of some bytes says of them, and that there is none.
use mathlib.Core.Path.{◌≡◌, refl, sym, ◌∙◌, ap, subst}
use native.Mathlib.Omega.{arith}
use Rattle.std.proofs.Common.{Result, Ok, Err, Option, Some, None}
use Rattle.std.specs.Result.{IfOk, result_ok}
use Rattle.hazards.specs.declared.refusals.Refusal.{Refusal}
use Rattle.engine.specs.Commands.{code_of, width_of, front_refusal, Begins}
use Rattle.engine.specs.Commands as commands
use Rattle.engine.specs.Engine.{Bytes, code}
use Rattle.engine.specs.Refusals.{refused_number}
use Rattle.engine.specs.ReplayInternals.{whole_width}
use Rattle.engine.specs.declared.commands.Command.{Command}
use Rattle.engine.specs.declared.commands.Command.TheVariants.{Create, Set, Remove, Reschedule, Pause, Resume, Deliver, Undo}
use Rattle.engine.proofs.FrontRefusals.{BeginsWhole}
use Rattle.engine.proofs.ReplayLaws.{begins, width_refused, width_undo, width_whole}
use Rattle.hazards.proofs.RefusalLaws.{number_not_zero}

-- the code of UNDO is no other command's
pub undo_code : (command : Command) → code_of command ≡ commands.undo → command ≡ Undo
undo_code Create e = absurd (omega arith)
undo_code Set e = absurd (omega arith)
undo_code Remove e = absurd (omega arith)
undo_code Reschedule e = absurd (omega arith)
undo_code Pause e = absurd (omega arith)
undo_code Resume e = absurd (omega arith)
undo_code Deliver e = absurd (omega arith)
undo_code Undo e = refl

-- it is the command that the bytes begin with
module _ (i : Bytes) (command : Command) (e : 0 ≡ front_refusal i) (b : Begins i command) where
  pub whole : BeginsWhole i
  whole = begins i 0 e refl

  pub is_undo : command ≡ Undo → code i ≡ commands.undo
  is_undo u = sym b.0 ∙ ap code_of u

  pub no_undo : (command ≡ Undo → ⊥) → code i ≡ commands.undo → ⊥
  no_undo h u = h (undo_code command (b.0 ∙ u))

  pub undo_none : command ≡ Undo → 0 ≡ whole_width i
  undo_none u = sym (width_undo i whole.some (is_undo u))

  pub other_whole : (command ≡ Undo → ⊥) → width_of (code_of command) ≡ whole_width i
  other_whole h = ap width_of b.0 ∙ sym (width_whole i whole.some (no_undo h) whole.long)

-- by what was read
module _ (i : Bytes) (r : Result Command Refusal) (d : (refused_number r ≡ front_refusal i) × IfOk r (λ command. Begins i command)) where
  abbrev Read : Option Command → Type 0
  Read (Some command) = (0 ≡ front_refusal i) × Begins i command
  Read None = 0 ≡ whole_width i

  read : Read (result_ok r)
  read = go r d
    where
      go : (q : Result Command Refusal) → (refused_number q ≡ front_refusal i) × IfOk q (λ command. Begins i command) → Read (result_ok q)
      go (Ok command) h = h
      go (Err refusal) h = sym (width_refused i _ h.0 (number_not_zero refusal))

  pub read_some : {command : Command} → Some command ≡ result_ok r → (0 ≡ front_refusal i) × Begins i command
  read_some h = subst Read (sym h) read

  pub read_none : None ≡ result_ok r → 0 ≡ whole_width i
  read_none h = subst Read (sym h) read
