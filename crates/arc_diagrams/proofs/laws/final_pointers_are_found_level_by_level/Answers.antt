use Rattle.arc_diagrams.proofs.FinalLaws.{finds_final}
use Rattle.arc_diagrams.proofs.laws.final_pointers_are_found_level_by_level.Goals as goal

pub returns : goal.returns
returns c = finds_final
