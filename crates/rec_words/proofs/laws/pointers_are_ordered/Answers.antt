use Rattle.rec_words.proofs.OrderLaws.{nodes_ordered, values_last, values_ordered}
use Rattle.rec_words.proofs.laws.pointers_are_ordered.Goals as goal

pub returns-clause-nodes : goal.returns-clause-nodes
returns-clause-nodes c = nodes_ordered

pub returns-clause-last : goal.returns-clause-last
returns-clause-last c = values_last

pub returns-clause-values : goal.returns-clause-values
returns-clause-values c = values_ordered
