use Rattle.saved_words.proofs.Placing.{if_none}
use Rattle.tuple_asks.specs.Saved.{numbered_parts}
use Rattle.tuple_asks.proofs.place_words.NumberedCarried.get.Goals as goal

-- where no parts stand it doesn't
pub returns-in_err-key-clause-none : goal.returns-in_err-key-clause-none
returns-in_err-key-clause-none c = if_none c.from_residual.result (λ x is. c.in_err-key.ensures.none (numbered_parts x) is)
