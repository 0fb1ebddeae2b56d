use Rattle.saved_words.proofs.Placing.{if_none}
use Rattle.restrict_eval.specs.SavedSame.{parts_of}
use Rattle.restrict_eval.proofs.saved.SavedSameCarried.get.Goals as goal

-- where no parts stand no comparison does
pub returns-in_err-n-clause-none : goal.returns-in_err-n-clause-none
returns-in_err-n-clause-none c = if_none c.from_residual.result (λ x is. c.in_err-n.ensures.none (parts_of x) is)
