use Rattle.reduce_sweep.specs.SavedPhase.{parts_of}
use Rattle.saved_words.proofs.Placing.{if_none}
use Rattle.reduce_sweep.proofs.saved_phase.SavedPhaseCarried.get.Goals as goal

-- where no parts stand no phase does
pub returns-in_err-collected-clause-none : goal.returns-in_err-collected-clause-none
returns-in_err-collected-clause-none c = if_none c.from_residual.result
    (λ x is. c.in_err-collected.ensures.none (parts_of x) is)
