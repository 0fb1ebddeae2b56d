use Rattle.saved_words.proofs.Placing.{if_none}
use Rattle.tuple_asks.specs.Saved.{arcs_parts}
use Rattle.tuple_asks.proofs.saved.SavedArcsCarried.get.Goals as goal

-- where no parts stand it doesn't
pub returns-in_err-inner-clause-none : goal.returns-in_err-inner-clause-none
returns-in_err-inner-clause-none c = if_none c.from_residual.result (λ x is. c.in_err-inner.ensures.none (arcs_parts x) is)
