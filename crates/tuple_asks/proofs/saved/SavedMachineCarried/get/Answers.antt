use Rattle.std.proofs.Common.{◌∙◌, sym, ap, subst}
use Rattle.saved_words.proofs.Placing.{if_none}
use Rattle.tuple_asks.specs.Saved.{machine_parts, machine_parts_spelling}
use Rattle.tuple_asks.proofs.MachineWords.{parts_again}
use Rattle.tuple_asks.proofs.saved.SavedMachineCarried.get.Goals as goal

-- where no parts stand it doesn't
pub returns-in_err-parts-clause-none : goal.returns-in_err-parts-clause-none
returns-in_err-parts-clause-none c = if_none c.from_residual.result (λ x is. c.in_err-parts.ensures.none (machine_parts x) is)

-- where parts stand it is the machine of these
pub returns-clause-value : goal.returns-clause-value
returns-clause-value c = subst machine_parts_spelling.is_value
    (sym (ap machine_parts c.of.ensures ∙ parts_again c.in_ok-parts.parts)) c.in_ok-parts.ensures.value
