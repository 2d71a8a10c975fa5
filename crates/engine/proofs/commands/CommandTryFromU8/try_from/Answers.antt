-- `commands::CommandTryFromU8::try_from` meets its contract.
use mathlib.Core.Path.{refl}
use Rattle.engine.proofs.CommandCodes.{width_none}
use Rattle.engine.proofs.commands.CommandTryFromU8.try_from.Goals as goal

pub returns-in_default : goal.returns-in_default
returns-in_default c =
    let r = c.in_default.in_default-own.rest in
    (refl, width_none _ r.0.0.0.0.0.0.0.1 r.0.0.0.0.0.0.1 r.0.0.0.0.0.1 r.0.0.0.0.1 r.0.0.0.1 r.0.0.1 r.0.1 r.1)
