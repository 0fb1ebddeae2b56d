use Rattle.std.specs.Prelude.{Some}
use Rattle.std.proofs.Common.{◌∙◌, sym, ap}
use Rattle.top_down_sweep.proofs.FuelLaws.{alike, differ_in}
use Rattle.top_down_sweep.proofs.machine.Machine.took_last.Goals as goal

-- the two asks have the same words
pub returns-in-Some-clause-yes : goal.returns-in-Some-clause-yes
returns-in-Some-clause-yes c same = sym c.last.ensures ∙ c.in-Some.is
    ∙ ap Some (sym c.ask.ensures.value ∙ alike _ _ (sym c.eq.ensures ∙ same))

-- or they differ
pub returns-in-Some-clause-no : goal.returns-in-Some-clause-no
returns-in-Some-clause-no c other = differ_in _ _ _ _ (sym c.last.ensures ∙ c.in-Some.is)
    c.ask.ensures.value (sym c.eq.ensures ∙ other)
