-- `replay::whole_command` meets its contract.
use Rattle.engine.proofs.FrontCommands.{undo_none, other_whole, read_some, read_none}
use Rattle.engine.proofs.replay.whole_command.Goals as goal

pub returns-in_err-command : goal.returns-in_err-command
returns-in_err-command c = rw c.from_residual.ensures (read_none c.args.bytes.now c.front_command.result c.front_command.ensures c.in_err-command.ensures.value)

pub returns-in-Undo : goal.returns-in-Undo
returns-in-Undo c =
    let d = read_some c.args.bytes.now c.front_command.result c.front_command.ensures c.in_ok-command.ensures.value in
    undo_none c.args.bytes.now _ d.0 d.1 c.in-Undo.is

pub returns-in_default : goal.returns-in_default
returns-in_default c =
    let d = read_some c.args.bytes.now c.front_command.result c.front_command.ensures c.in_ok-command.ensures.value in
    other_whole c.args.bytes.now _ d.0 d.1 c.in_default.not-Undo
