-- `commands::front_command` meets its contract.
use mathlib.Core.Path.{sym, ap, ◌∙◌}
use native.Mathlib.Omega.{arith}
use Rattle.std.proofs.lemmas.Option.{get_or_from_slice_get, slice_get_within}
use Rattle.engine.specs.Commands.{width_of}
use Rattle.engine.proofs.RunStops.{end_empty, end_none, end_part, end_whole}
use Rattle.engine.proofs.Outcomes.{refused_as, none_first}
use Rattle.engine.proofs.commands.front_command.Goals as goal

pub returns-in_default : goal.returns-in_default
returns-in_default c = (end_empty c.args.input.now (none_first _ (sym c.in_default.ensures.value)), tt)

pub returns-in_err-command : goal.returns-in_err-command
returns-in_err-command c =
    let first = sym c.in-Some.ensures.value in
    let code = get_or_from_slice_get _ 0 _ 0 first in
    let h = c.in_err-command.ensures in
    rw (refused_as c.from_residual.result c.from_residual.ensures.1, h.0)
    (end_none c.args.input.now (slice_get_within _ 0 _ first) (omega (arith, h.1, ap width_of code)), tt)

pub returns-then-input-width : goal.returns-then-input-width
returns-then-input-width c =
    let first = sym c.in-Some.ensures.value in
    let code = c.in_ok-command.ensures ∙ sym (get_or_from_slice_get _ 0 _ 0 first) in
    let e = c.width.ensures.0 ∙ ap width_of code in
    (end_part c.args.input.now (slice_get_within _ 0 _ first) (omega (arith, e, c.width.ensures.1)) (omega (arith, e)), tt)

pub returns : goal.returns
returns c =
    let first = sym c.in-Some.ensures.value in
    let code = c.in_ok-command.ensures ∙ sym (get_or_from_slice_get _ 0 _ 0 first) in
    let e = c.width.ensures.0 ∙ ap width_of code in (
      end_whole c.args.input.now (slice_get_within _ 0 _ first) (omega (arith, e, c.width.ensures.1)) (omega (arith, e)),
      (code, omega (arith, c.width.ensures.0)),
    )
