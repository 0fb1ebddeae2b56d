use Rattle.table_work.proofs.CanonicalWork.{given_is_work}
use Rattle.table_work.proofs.laws.operations_on_canonical_files_are_work.Goals as goal

pub returns : goal.returns
returns c =
    let tasks = c.operations_on_canonical_files_are_tasks.ensures in
    let meets = c.operations_meet_few_tuples.ensures in
    given_is_work (record {
      product = tasks.product;
      choice = tasks.choice;
      quantifier = tasks.quantifier;
      restriction = tasks.restriction;
      product_few = meets.product;
      choice_few = meets.choice;
      quantifier_few = meets.quantifier;
      restriction_few = meets.restriction;
    })
