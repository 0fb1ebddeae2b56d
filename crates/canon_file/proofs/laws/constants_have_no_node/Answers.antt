use Rattle.canon_file.proofs.ConstDiagram.{no_node-const}
use Rattle.canon_file.proofs.laws.constants_have_no_node.Goals as goal

pub returns : goal.returns
returns c n value = no_node-const n value
