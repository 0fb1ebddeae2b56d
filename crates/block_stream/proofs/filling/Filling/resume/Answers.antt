use Rattle.block_stream.proofs.CutRuns.{then_cut}
use Rattle.block_stream.proofs.filling.Filling.resume.Goals as goal

pub returns-in_err-cut-clause-content : goal.returns-in_err-cut-clause-content
returns-in_err-cut-clause-content g c =
    then_cut g.S.Shelf.tells g.S.Shelf.world _ _ _ _ _ _ c.len.ensures.content c.cut.ensures.content

pub returns-clause-content : goal.returns-clause-content
returns-clause-content g c =
    then_cut g.S.Shelf.tells g.S.Shelf.world _ _ _ _ _ _ c.len.ensures.content c.cut.ensures.content
