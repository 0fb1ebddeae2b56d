use Rattle.saved_words.proofs.Placing.{if_none}
use Rattle.tuple_asks.specs.Saved.{operand_parts}
use Rattle.tuple_asks.proofs.saved.SavedOperandCarried.get.Goals as goal

-- where no parts stand it doesn't
pub returns-in_err-file-clause-none : goal.returns-in_err-file-clause-none
returns-in_err-file-clause-none c = if_none c.from_residual.result (λ x is. c.in_err-file.ensures.none (operand_parts x) is)
