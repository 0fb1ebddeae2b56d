use Rattle.arc_diagrams.proofs.TableLaws.{stands_for_one}
use Rattle.arc_diagrams.proofs.laws.arcs_stand_for_one_table.Goals as goal

pub returns : goal.returns
returns c = stands_for_one
