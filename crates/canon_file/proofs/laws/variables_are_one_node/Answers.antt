use Rattle.canon_file.proofs.VarDiagram.{one_node-var}
use Rattle.canon_file.proofs.laws.variables_are_one_node.Goals as goal

pub returns : goal.returns
returns c n level below = one_node-var n level below
