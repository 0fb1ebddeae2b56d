use Rattle.top_down.proofs.OperationDiagrams.{product_stands}
use Rattle.top_down.proofs.laws.pairs_make_a_diagram.Goals as goal

pub returns : goal.returns
returns c = product_stands
