use Rattle.std.proofs.Common.{◌∙◌, sym, ap, subst}
use Rattle.saved_words.specs.Joined.{pair_words, IsPair}
use Rattle.saved_words.proofs.Placing.{if_none}
use Rattle.reduce_sweep.specs.SavedReduction.{parts_of, first_words, second_words, IsFirst, IsSecond}
use Rattle.reduce_sweep.proofs.saved.SavedCarried.get.Goals as goal

-- where no parts stand no reduction does
pub returns-in_err-parts-clause-none : goal.returns-in_err-parts-clause-none
returns-in_err-parts-clause-none c = if_none c.from_residual.result
    (λ x is. c.in_err-parts.ensures.none (parts_of x) is)

pub returns-clause-found : goal.returns-clause-found
returns-clause-found c = ap (pair_words first_words second_words) c.saved_by.ensures ∙ c.in_ok-parts.ensures.found

pub returns-clause-value : goal.returns-clause-value
returns-clause-value c = subst (IsPair IsFirst IsSecond) (sym c.saved_by.ensures) c.in_ok-parts.ensures.value
