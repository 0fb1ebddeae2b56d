use Rattle.std.proofs.Common.{refl}
use Rattle.node_file.proofs.PieceRuns.{piece_put, piece_stands}
use Rattle.node_file.proofs.copy.copy_piece.Goals as goal

pub returns-clause-put : goal.returns-clause-put
returns-clause-put g c =
    piece_stands g.S.Shelf.tells g.S.Shelf.world _ _ _ _ _ _ _ _ _ _ refl c.in_ok-len.ensures.content c.append.ensures.content

pub returns-clause-content : goal.returns-clause-content
returns-clause-content g c =
    piece_put g.S.Shelf.tells g.S.Shelf.world _ _ _ _ _ _ _ _ _ _ _ c.read_at.ensures.content c.append.ensures.content
