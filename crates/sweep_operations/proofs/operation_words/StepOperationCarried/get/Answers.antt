use Rattle.saved_words.proofs.Placing.{if_none}
use Rattle.std.proofs.Common.{◌∙◌, sym, ap, subst}
use Rattle.sweep_operations.specs.OperationWords.{step_parts, operations_spelling}
use Rattle.sweep_operations.proofs.StepWords.{if_found, if_missing}
use Rattle.sweep_operations.proofs.operation_words.StepOperationCarried.get.Goals as goal

-- where no parts stand it doesn't
pub returns-in_err-parts-clause-none : goal.returns-in_err-parts-clause-none
returns-in_err-parts-clause-none c = if_none c.from_residual.result (λ x is. c.in_err-parts.ensures.none (step_parts x) is)

-- where parts stand it is the operation of these, if there is one
pub returns-clause-found : goal.returns-clause-found
returns-clause-found c = if_found c.of.result _ c.in_ok-parts.parts c.of.ensures
    (λ x same. ap operations_spelling.words same ∙ c.in_ok-parts.ensures.found)

pub returns-clause-value : goal.returns-clause-value
returns-clause-value c = if_found c.of.result _ c.in_ok-parts.parts c.of.ensures
    (λ x same. subst operations_spelling.is_value (sym same) c.in_ok-parts.ensures.value)

pub returns-clause-moves : goal.returns-clause-moves
returns-clause-moves c = if_found c.of.result _ c.in_ok-parts.parts c.of.ensures
    (λ x same. c.in_ok-parts.ensures.moves)

pub returns-clause-none : goal.returns-clause-none
returns-clause-none c = if_missing c.of.result _ c.in_ok-parts.parts c.of.ensures
    (λ missing x is there. missing x (operations_spelling.differ (step_parts x) c.in_ok-parts.parts is
    c.in_ok-parts.ensures.value (there ∙ sym c.in_ok-parts.ensures.found)))
