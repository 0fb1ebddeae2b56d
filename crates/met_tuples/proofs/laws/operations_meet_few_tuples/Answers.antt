use Rattle.met_tuples.proofs.ProductTuples.{product_meets_few}
use Rattle.met_tuples.proofs.ChoiceTuples.{choice_meets_few}
use Rattle.met_tuples.proofs.QuantifyTuples.{quantify_meets_few}
use Rattle.met_tuples.proofs.RestrictTuples.{restrict_meets_few}
use Rattle.met_tuples.proofs.laws.operations_meet_few_tuples.Goals as goal

pub returns-clause-product : goal.returns-clause-product
returns-clause-product c = product_meets_few

pub returns-clause-choice : goal.returns-clause-choice
returns-clause-choice c = choice_meets_few

pub returns-clause-quantifier : goal.returns-clause-quantifier
returns-clause-quantifier c = quantify_meets_few

pub returns-clause-restriction : goal.returns-clause-restriction
returns-clause-restriction c = restrict_meets_few
