use Rattle.saved_words.proofs.Placing.{if_none}
use Rattle.tuple_asks.specs.Saved.{asking_parts}
use Rattle.tuple_asks.proofs.place_words.AskingCarried.get.Goals as goal

-- where no parts stand it doesn't
pub returns-in_err-root-clause-none : goal.returns-in_err-root-clause-none
returns-in_err-root-clause-none c = if_none c.from_residual.result (λ x is. c.in_err-root.ensures.none (asking_parts x) is)
