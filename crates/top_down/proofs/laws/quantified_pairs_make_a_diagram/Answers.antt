use Rattle.top_down.proofs.OperationDiagrams.{quantify_stands}
use Rattle.top_down.proofs.laws.quantified_pairs_make_a_diagram.Goals as goal

pub returns : goal.returns
returns c = quantify_stands
