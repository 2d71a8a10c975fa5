-- `theorem::piece_used` meets its contract.
use Rattle.hazards.proofs.PieceStruck.{piece_used}
use Rattle.hazards.proofs.theorem.piece_used.Goals as goal

pub returns : goal.returns
returns c = piece_used
