use Rattle.std.proofs.Common.{refl, sym}
use Rattle.bool_tables.specs.declared.steps.Step.TheVariants.{Pair, Ite, Quantify, Restrict}
use Rattle.resumable.proofs.Works.{work_at_step}
use Rattle.resumable.proofs.laws.the_work_is_the_steps.Goals as goal

pub returns-clause-operator : goal.returns-clause-operator
returns-clause-operator c n steps j left right op is =
    sym (work_at_step n steps j (Pair op left right) (Pair op 0 1) is refl (λ i h pieces. refl))

pub returns-clause-choice : goal.returns-clause-choice
returns-clause-choice c n steps j test if_one if_zero is =
    sym (work_at_step n steps j (Ite test if_one if_zero) (Ite 0 1 2) is refl (λ i h pieces. refl))

pub returns-clause-quantifier : goal.returns-clause-quantifier
returns-clause-quantifier c n steps j operand level kind is =
    sym (work_at_step n steps j (Quantify kind operand level) (Quantify kind 0 level) is refl (λ i h pieces. refl))

pub returns-clause-restriction : goal.returns-clause-restriction
returns-clause-restriction c n steps j operand level value is =
    sym (work_at_step n steps j (Restrict operand level value) (Restrict 0 level value) is refl (λ i h pieces. refl))
