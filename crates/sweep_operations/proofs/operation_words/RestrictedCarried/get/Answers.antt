use Rattle.saved_words.proofs.Placing.{if_none}
use Rattle.sweep_operations.specs.OperationWords.{restricted_parts}
use Rattle.sweep_operations.proofs.operation_words.RestrictedCarried.get.Goals as goal

-- where no parts stand it doesn't
pub returns-in_err-variable-clause-none : goal.returns-in_err-variable-clause-none
returns-in_err-variable-clause-none c = if_none c.from_residual.result (λ x is. c.in_err-variable.ensures.none (restricted_parts x) is)
