-- `execution::named_clock` meets its contract.
use mathlib.Core.Path.{refl, sym, ◌∙◌, ap}
use mathlib.Core.List.{[]}
use mathlib.Core.Bool.{Bool, cond}
use Prim.Native.Nat.{ℕ, ◌*◌, ◌<◌}
use native.Mathlib.Omega.{arith}
use borrow.Author.Tests.{eq-eqb, ne_eqb}
use lib.Dec.{eqb}
use lib.ListN.{get_or}
use Rattle.engine.specs.Commands.{clock_of}
use Rattle.engine.specs.Refusals.{clock_absent}
use Rattle.engine.specs.State.{slot_at}
use Rattle.engine.specs.StateRows.{state_from}
use Rattle.engine.proofs.ExecutionCases.{refusal_clock}
use Rattle.engine.proofs.CommandsInPlace.{present_there}
use Rattle.engine.proofs.execution.named_clock.Goals as goal

pub bounds-words-clock : goal.bounds-words-clock
bounds-words-clock c =
    let k = c.requires (sym c.in_ok-refusal.ensures) in
    omega (arith, c.byte_at-clock.ensures, k)

pub returns-then-words-clock-ne1 : goal.returns-then-words-clock-ne1
returns-then-words-clock-ne1 c =
    let w = c.args.words.now in
    let k : clock_of c.args.command.now < 16 = c.requires (sym c.in_ok-refusal.ensures) in (
      λ floats.
          ap (λ (b : Bool). cond b 0 clock_absent)
          (sym (ne_eqb _ _ c.if-words-clock-ne1.true)
          ∙ (ap (λ (i : ℕ). eqb (get_or (get_or w (10 * i) []) 0 0) 1) c.byte_at-clock.ensures ∙ present_there w floats _ k))
          ∙ refusal_clock c.args.faults c.in_ok-refusal.ensures (slot_at (state_from w floats) (clock_of c.args.command.now)).present refl,
      tt,
    )

pub returns : goal.returns
returns c =
    let w = c.args.words.now in
    let k : clock_of c.args.command.now < 16 = c.requires (sym c.in_ok-refusal.ensures) in (
      λ floats.
          ap (λ (b : Bool). cond b 0 clock_absent)
          (sym (eq-eqb _ _ c.if-words-clock-ne1.false)
          ∙ (ap (λ (i : ℕ). eqb (get_or (get_or w (10 * i) []) 0 0) 1) c.byte_at-clock.ensures ∙ present_there w floats _ k))
          ∙ refusal_clock c.args.faults c.in_ok-refusal.ensures (slot_at (state_from w floats) (clock_of c.args.command.now)).present refl,
      c.byte_at-clock.ensures,
    )
