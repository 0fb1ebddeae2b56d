use Rattle.std.specs.Prelude.{[], ◌∷◌, length}
use Rattle.std.proofs.Common.{refl, ap, ◌∙◌, arith}
use Rattle.saved_words.proofs.Placing.{next_both, no_later, if_none}
use Rattle.saved_words.proofs.single.FileNoCarried.get.Goals as goal

pub returns-in_err-part-clause-none : goal.returns-in_err-part-clause-none
returns-in_err-part-clause-none c = if_none c.from_residual-in_err-part.result (λ f value.
    no_later (f.step ∷ []) (f.part ∷ []) 1 1 _ _ refl c.in_ok-step.ensures.moves
    (λ same. let long = ap length (same ∙ c.in_err-part.ensures.none) in absurd (omega (arith, long))))

pub returns-clause-found : goal.returns-clause-found
returns-clause-found c = next_both (c.in_ok-step.step ∷ []) (c.in_ok-part.part ∷ []) 1 1 _ _
    c.in_ok-step.ensures.found c.in_ok-step.ensures.moves c.in_ok-part.ensures.found.0
