use Rattle.top_down_laws.proofs.CanonTasks.{product_is_task, choice_is_task, quantify_is_task, restrict_is_task}
use Rattle.top_down_laws.proofs.laws.operations_on_canonical_diagrams_are_tasks.Goals as goal

pub returns : goal.returns
returns c = record {
  product = product_is_task;
  choice = choice_is_task;
  quantifier = quantify_is_task;
  restriction = restrict_is_task;
}
