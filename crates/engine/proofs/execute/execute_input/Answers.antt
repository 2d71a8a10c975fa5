-- `execute::execute_input` meets its contract, by what the input asks for.
use mathlib.Core.Path.{refl, sym, ◌∙◌, ap, subst}
use native.Mathlib.Omega.{arith}
use borrow.Author.Tests.{not-true, not-false}
use lib.ListN.{length, take}
use lib.Seq.{length-take-le}
use Prim.Native.Nat.{ℕ}
use Rattle.engine.specs.Commands.{width_of}
use Rattle.engine.specs.Refusals.{answer_from}
use Rattle.engine.specs.Engine.{Engine, Outcome}
use Rattle.engine.specs.Instance.{engine_of}
use Rattle.engine.specs.Answers.{after}
use Rattle.engine.specs.State.{EngineState}
use Rattle.engine.specs.StateRows.{state_from}
use Rattle.engine.specs.InPlace.{Executes}
use Rattle.engine.proofs.Asking.{asks_undo, asks_command, execute_undo}
use Rattle.engine.proofs.CommandLists.{Whole}
use Rattle.engine.proofs.ExecuteLaws.{valid_within, executes}
use Rattle.engine.proofs.ExecutedInPlace.{ValidRows, valid_rows, on_state, rejected_in_place, invalid_in_place}
use Rattle.engine.proofs.FrontRefusals.{BeginsWhole, front_refused, front_whole}
use Rattle.engine.proofs.Replays.{cut_whole}
use Rattle.engine.proofs.FrontCommands.{is_undo, no_undo}
use Rattle.hazards.proofs.RefusalLaws.{number_not_zero}
use Rattle.engine.proofs.Outcomes.{refused_as}
use Rattle.engine.proofs.execute.execute_input.Goals as goal

pub returns-then-not-is_valid : goal.returns-then-not-is_valid
returns-then-not-is_valid c =
    let a = c.args in
    invalid_in_place a.stream.now a.words.now a.floats.now a.journal.now a.input.now _
    refl c.is_valid.ensures (not-true _ c.if-not-is_valid.true-raw)

-- ---- the rows are a valid state

pub returns-in_err-command : goal.returns-in_err-command
returns-in_err-command c =
    let rows = (rw c.unwrap-rows.ensures at c.as_mut_array.ensures.cases).same in
    let numbers = (rw c.unwrap-numbers.ensures at c.as_mut_array-2.ensures.cases).same in
    let state : EngineState =
    state_from c.args.words.now c.args.floats.now in
    let valid : ValidRows c.args.stream.now (length c.args.journal.now) c.args.words.now c.args.floats.now =
    valid_rows _ _ _ _ c.is_valid.ensures (not-false _ c.if-not-is_valid.false-raw) in
    let a = c.args in
    let v = valid in
    rw (refused_as c.from_residual.result c.from_residual.ensures.1, rows, numbers)
    (on_state a.stream.now a.words.now a.floats.now a.journal.now a.input.now v.here
    (rejected_in_place a.stream.now a.words.now a.floats.now a.journal.now a.input.now _ _ refl
    (front_refused a.stream.now (length a.journal.now) state a.input.now _ c.in_err-command.ensures.0 v.valid (number_not_zero _))))

-- ---- it begins with a whole command

pub undo-requires : goal.undo-requires
unfolding state_from
undo-requires c =
    let rows = (rw c.unwrap-rows.ensures at c.as_mut_array.ensures.cases).same in
    let numbers = (rw c.unwrap-numbers.ensures at c.as_mut_array-2.ensures.cases).same in
    let state : EngineState =
    state_from c.args.words.now c.args.floats.now in
    let valid : ValidRows c.args.stream.now (length c.args.journal.now) c.args.words.now c.args.floats.now =
    valid_rows _ _ _ _ c.is_valid.ensures (not-false _ c.if-not-is_valid.false-raw) in
    let a = c.args in
    let v = valid in
    rw (rows, numbers) (v.coded, (valid_within a.stream.now (length a.journal.now) state v.valid).applied)

pub returns-in-Undo : goal.returns-in-Undo
returns-in-Undo c =
    let rows = (rw c.unwrap-rows.ensures at c.as_mut_array.ensures.cases).same in
    let numbers = (rw c.unwrap-numbers.ensures at c.as_mut_array-2.ensures.cases).same in
    let engine : Engine =
    engine_of c.args.stream.now (length c.args.journal.now) in
    let state : EngineState =
    state_from c.args.words.now c.args.floats.now in
    let valid : ValidRows c.args.stream.now (length c.args.journal.now) c.args.words.now c.args.floats.now =
    valid_rows _ _ _ _ c.is_valid.ensures (not-false _ c.if-not-is_valid.false-raw) in
    let whole : BeginsWhole c.args.input.now =
    front_whole c.args.stream.now (length c.args.journal.now) state c.args.input.now 0 c.in_ok-command.ensures.0 refl in
    let a = c.args in
    let v = valid in
    let i = whole in
    let asked = asks_undo engine state a.input.now v.valid i.some i.wide i.long (is_undo a.input.now _ c.in_ok-command.ensures.0 c.in_ok-command.ensures.1 c.in-Undo.is) in
    on_state a.stream.now a.words.now a.floats.now a.journal.now a.input.now v.here
    (subst (λ (o : Outcome engine). Executes a.words.now a.floats.now (after a.stream.now (length a.journal.now) o)
    c.undo.new.words c.undo.new.floats c.undo.new.journal (answer_from c.undo.result))
    (sym (execute_undo engine state a.journal.now a.input.now asked)) (rw (rows, numbers) at c.undo.ensures))

-- ---- a command but UNDO

pub slice_bounds-perform_command-end : goal.slice_bounds-perform_command-end
slice_bounds-perform_command-end c =
    let wide = c.width.ensures.0 ∙ ap width_of c.in_ok-command.ensures.1.0 in
    let state : EngineState =
    state_from c.args.words.now c.args.floats.now in
    let whole : BeginsWhole c.args.input.now =
    front_whole c.args.stream.now (length c.args.journal.now) state c.args.input.now 0 c.in_ok-command.ensures.0 refl in
    sym (length-take-le _ c.args.input.now (omega (arith, wide, whole.long)))

pub perform_command-requires : goal.perform_command-requires
perform_command-requires c =
    let rows = (rw c.unwrap-rows.ensures at c.as_mut_array.ensures.cases).same in
    let numbers = (rw c.unwrap-numbers.ensures at c.as_mut_array-2.ensures.cases).same in
    let wide = c.width.ensures.0 ∙ ap width_of c.in_ok-command.ensures.1.0 in
    let engine : Engine =
    engine_of c.args.stream.now (length c.args.journal.now) in
    let state : EngineState =
    state_from c.args.words.now c.args.floats.now in
    let valid : ValidRows c.args.stream.now (length c.args.journal.now) c.args.words.now c.args.floats.now =
    valid_rows _ _ _ _ c.is_valid.ensures (not-false _ c.if-not-is_valid.false-raw) in
    let whole : BeginsWhole c.args.input.now =
    front_whole c.args.stream.now (length c.args.journal.now) state c.args.input.now 0 c.in_ok-command.ensures.0 refl in
    let cut : Whole engine (take c.width.result c.args.input.now) =
    let i = c.args.input.now in
    let b = whole in
    subst (λ (k : ℕ). Whole engine (take k i)) (sym wide) (cut_whole engine i b.wide b.long (no_undo i _ c.in_ok-command.ensures.0 c.in_ok-command.ensures.1 c.in_default.not-Undo)) in
    let v = valid in
    let b = cut in
    rw (rows, numbers) (v.valid, (omega (arith, b.len, b.pos), b.other))

pub returns-in_default : goal.returns-in_default
returns-in_default c =
    let rows = (rw c.unwrap-rows.ensures at c.as_mut_array.ensures.cases).same in
    let numbers = (rw c.unwrap-numbers.ensures at c.as_mut_array-2.ensures.cases).same in
    let wide = c.width.ensures.0 ∙ ap width_of c.in_ok-command.ensures.1.0 in
    let engine : Engine =
    engine_of c.args.stream.now (length c.args.journal.now) in
    let state : EngineState =
    state_from c.args.words.now c.args.floats.now in
    let valid : ValidRows c.args.stream.now (length c.args.journal.now) c.args.words.now c.args.floats.now =
    valid_rows _ _ _ _ c.is_valid.ensures (not-false _ c.if-not-is_valid.false-raw) in
    let whole : BeginsWhole c.args.input.now =
    front_whole c.args.stream.now (length c.args.journal.now) state c.args.input.now 0 c.in_ok-command.ensures.0 refl in
    let a = c.args in
    let v = valid in
    let i = whole in
    let asked = asks_command engine state a.input.now v.valid i.some i.wide i.long (no_undo a.input.now _ c.in_ok-command.ensures.0 c.in_ok-command.ensures.1 c.in_default.not-Undo) in
    on_state a.stream.now a.words.now a.floats.now a.journal.now a.input.now v.here
    (subst (λ (o : Outcome engine). Executes a.words.now a.floats.now (after a.stream.now (length a.journal.now) o)
    c.perform_command.new.words c.perform_command.new.floats c.perform_command.new.journal
    (answer_from c.perform_command.result))
    (sym (executes engine state a.journal.now a.input.now _ wide asked)) (rw (rows, numbers) at c.perform_command.ensures))
