-- `theorem::piece_zero` meets its contract.
use Rattle.hazards.proofs.PieceStruck.{piece_zero}
use Rattle.hazards.proofs.theorem.piece_zero.Goals as goal

pub returns : goal.returns
returns c = piece_zero
