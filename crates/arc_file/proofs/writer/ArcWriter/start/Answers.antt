use Rattle.arc_file.proofs.PairLaws.{both_cut_on}
use Rattle.arc_file.proofs.writer.ArcWriter.start.Goals as goal

pub returns-in_err-to_values-clause-content : goal.returns-in_err-to_values-clause-content
returns-in_err-to_values-clause-content g c =
    both_cut_on g.S.Shelf.tells g.S.Shelf.world 1 1 _ _ _ _ _ _ _ c.requires.apart c.in_ok-to_nodes.ensures.content c.in_err-to_values.ensures.content

pub returns-clause-content : goal.returns-clause-content
returns-clause-content g c =
    both_cut_on g.S.Shelf.tells g.S.Shelf.world 1 1 _ _ _ _ _ _ _ c.requires.apart c.in_ok-to_nodes.ensures.content c.in_ok-to_values.ensures.content
