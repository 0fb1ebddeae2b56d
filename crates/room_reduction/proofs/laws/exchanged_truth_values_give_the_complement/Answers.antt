use Rattle.room_reduction.proofs.ComplementLaws.{other_diagram}
use Rattle.room_reduction.proofs.laws.exchanged_truth_values_give_the_complement.Goals as goal

pub returns : goal.returns
returns c = other_diagram
