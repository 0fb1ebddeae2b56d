use Rattle.list_laws.proofs.AnswerLaws.{on_ok_both}
use Rattle.copied_diagrams.proofs.PairRuns.{copy_made}
use Rattle.copied_diagrams.proofs.copy.copy_diagram.Goals as goal

-- a file of so many pieces was copied
pub returns-clause-made : goal.returns-clause-made
returns-clause-made g c = on_ok_both c.copy_file.result (λ copied _ told n table most is.
    copy_made n table most c.node_pieces-pieces.result c.args.source c.args.to _ _ c.node_pieces-pieces.ensures.enough (copied told) is)
    c.copy_file.ensures.made c.copy_file.ensures.made
