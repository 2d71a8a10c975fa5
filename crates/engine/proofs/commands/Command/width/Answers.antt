-- `commands::Command::width` meets its contract.
use mathlib.Core.Path.{sym, ◌∙◌, ap}
use mathlib.Core.Logic.{inl, inr}
use native.Mathlib.Omega.{arith}
use Rattle.engine.proofs.CommandCodes.{bytes_in, width_named}
use Rattle.engine.proofs.commands.Command.width.Goals as goal

pub returns-in-Create : goal.returns-in-Create
returns-in-Create c = (ap bytes_in (sym c.in-Create.is) ∙ width_named c.args.self, omega arith)

pub returns-in-Set : goal.returns-in-Set
returns-in-Set c = (ap bytes_in (sym c.in-Set.is) ∙ width_named c.args.self, omega arith)

pub returns-in-Remove : goal.returns-in-Remove
returns-in-Remove c = (ap bytes_in (sym c.in-Remove.is) ∙ width_named c.args.self, omega arith)

pub returns-in-Reschedule : goal.returns-in-Reschedule
returns-in-Reschedule c = (elim c.in-Reschedule.is [ inl e ↦ ap bytes_in (sym e) ∙ width_named c.args.self | inr e ↦ ap bytes_in (sym e) ∙ width_named c.args.self ], omega arith)

pub returns-in-Pause : goal.returns-in-Pause
returns-in-Pause c = (ap bytes_in (sym c.in-Pause.is) ∙ width_named c.args.self, omega arith)

pub returns-in-Deliver : goal.returns-in-Deliver
returns-in-Deliver c = (elim c.in-Deliver.is [ inl e ↦ ap bytes_in (sym e) ∙ width_named c.args.self | inr e ↦ ap bytes_in (sym e) ∙ width_named c.args.self ], omega arith)
