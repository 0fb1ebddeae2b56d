use Rattle.top_down.proofs.OperationDiagrams.{restrict_stands}
use Rattle.top_down.proofs.laws.restricted_pointers_make_a_diagram.Goals as goal

pub returns : goal.returns
returns c = restrict_stands
