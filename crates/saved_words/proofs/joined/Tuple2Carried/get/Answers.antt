use Rattle.saved_words.proofs.Placing.{next_both, no_later, if_none}
use Rattle.saved_words.proofs.joined.Tuple2Carried.get.Goals as goal

pub returns-in_err-y-clause-none : goal.returns-in_err-y-clause-none
returns-in_err-y-clause-none g c = if_none c.from_residual-in_err-y.result (λ p value.
    no_later (g.A.Carried.words p.0) (g.B.Carried.words p.1) _ _ _ _ (g.met.A.Carried.long p.0 value.0)
    c.in_ok-x.ensures.moves (c.in_err-y.ensures.none p.1 value.1))

pub returns-clause-found : goal.returns-clause-found
returns-clause-found g c =
    next_both (g.A.Carried.words c.in_ok-x.x) (g.B.Carried.words c.in_ok-y.y) _ _ _ _ c.in_ok-x.ensures.found
    c.in_ok-x.ensures.moves c.in_ok-y.ensures.found
