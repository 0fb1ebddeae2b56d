use Rattle.saved_words.proofs.Placing.{if_none}
use Rattle.restrict_eval.specs.SavedEval.{parts_of}
use Rattle.restrict_eval.proofs.saved_eval.SavedEvalCarried.get.Goals as goal

-- where no parts stand no evaluation does
pub returns-in_err-bits-clause-none : goal.returns-in_err-bits-clause-none
returns-in_err-bits-clause-none c = if_none c.from_residual.result (λ x is. c.in_err-bits.ensures.none (parts_of x) is)
