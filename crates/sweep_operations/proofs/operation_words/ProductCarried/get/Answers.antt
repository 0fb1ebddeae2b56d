use Rattle.saved_words.proofs.Placing.{if_none}
use Rattle.sweep_operations.specs.OperationWords.{product_parts}
use Rattle.sweep_operations.proofs.operation_words.ProductCarried.get.Goals as goal

-- where no parts stand it doesn't
pub returns-in_err-v00-clause-none : goal.returns-in_err-v00-clause-none
returns-in_err-v00-clause-none c = if_none c.from_residual.result (λ x is. c.in_err-v00.ensures.none (product_parts x) is)
