use Rattle.sha3.proofs.Pieces.{any_pieces}
use Rattle.sha3.proofs.theorems.pieces_agree.Goals as goal

pub returns : goal.returns
returns c = any_pieces
