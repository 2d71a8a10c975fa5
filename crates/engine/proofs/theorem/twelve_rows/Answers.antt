-- `theorem::twelve_rows` meets its contract.
use Rattle.engine.proofs.Rows.{twelve_rows}
use Rattle.engine.proofs.theorem.twelve_rows.Goals as goal

pub returns : goal.returns
returns c = twelve_rows
