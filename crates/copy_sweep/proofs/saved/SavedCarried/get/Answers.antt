use Rattle.copy_sweep.specs.Saved.{parts_of}
use Rattle.saved_words.proofs.Placing.{if_none}
use Rattle.copy_sweep.proofs.saved.SavedCarried.get.Goals as goal

-- where no parts stand no copy does
pub returns-in_err-from-clause-none : goal.returns-in_err-from-clause-none
returns-in_err-from-clause-none c = if_none c.from_residual.result (λ x is. c.in_err-from.ensures.none (parts_of x) is)
