use Rattle.saved_words.proofs.Placing.{if_none}
use Rattle.sweep_operations.specs.OperationWords.{quantified_parts}
use Rattle.sweep_operations.proofs.operation_words.QuantifiedCarried.get.Goals as goal

-- where no parts stand it doesn't
pub returns-in_err-exists-clause-none : goal.returns-in_err-exists-clause-none
returns-in_err-exists-clause-none c = if_none c.from_residual.result (λ x is. c.in_err-exists.ensures.none (quantified_parts x) is)
