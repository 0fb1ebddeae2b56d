use Rattle.block_stream.proofs.CutRuns.{one_cut}
use Rattle.block_stream.proofs.filling.Filling.start.Goals as goal

pub returns-in_err-cut-clause-content : goal.returns-in_err-cut-clause-content
returns-in_err-cut-clause-content g c = one_cut g.S.Shelf.tells g.S.Shelf.world _ _ _ _ _ c.cut.ensures.content

pub returns-clause-content : goal.returns-clause-content
returns-clause-content g c = one_cut g.S.Shelf.tells g.S.Shelf.world _ _ _ _ _ c.cut.ensures.content
