use Rattle.top_down.proofs.ImplicationLaws.{implication_answers}
use Rattle.top_down.proofs.laws.implications_compare_tables.Goals as goal

pub returns : goal.returns
returns c = implication_answers
