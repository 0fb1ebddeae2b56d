use Rattle.top_down.proofs.OperationDiagrams.{choice_stands}
use Rattle.top_down.proofs.laws.triples_make_a_diagram.Goals as goal

pub returns : goal.returns
returns c = choice_stands
