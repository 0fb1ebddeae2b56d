use Rattle.canon_file.proofs.LevelLaws.{nodes_pushed}
use Rattle.canon_file.proofs.level.add_nodes.Goals as goal

pub loop-k-preserved : goal.loop-k-preserved
loop-k-preserved c =
    nodes_pushed c.args.level c.loop-k.k c.args.rows.now c.of_row.result c.index-rows-k.result _ _ _ c.loop-k-test.true
    c.of_row.ensures c.index-rows-k.is c.in_ok-add_node.ensures c.loop-k.invariant
