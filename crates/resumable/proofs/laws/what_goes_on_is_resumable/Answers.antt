use Rattle.std.specs.Prelude.{◌<◌}
use Rattle.std.proofs.Common.{refl, subst}
use Rattle.bool_tables.specs.declared.steps.Step.TheVariants.{Pair, Ite, Quantify, Restrict, Same, Leq, Eval}
use Rattle.resumable.proofs.Reached.{step_resumes}
use Rattle.resumable.proofs.Works.{work_at_step}
use Rattle.resumable.proofs.laws.what_goes_on_is_resumable.Goals as goal

pub returns-clause-comparison : goal.returns-clause-comparison
returns-clause-comparison c n text steps j left right turns r is none goes few =
    step_resumes n text steps j (Same left right) r is none (record {
      turns = turns;
      goes_on = goes;
      few = subst (λ k. turns < k) (work_at_step n steps j (Same left right) (Same 0 1) is refl (λ i h pieces. refl))
          few;
    })

pub returns-clause-evaluation : goal.returns-clause-evaluation
returns-clause-evaluation c n text steps j operand at turns r is none goes few =
    step_resumes n text steps j (Eval operand at) r is none (record {
      turns = turns;
      goes_on = goes;
      few = subst (λ k. turns < k) (work_at_step n steps j (Eval operand at) (Eval 0 at) is refl (λ i h pieces. refl))
          few;
    })

pub returns-clause-implication : goal.returns-clause-implication
returns-clause-implication c n text steps j left right turns r is none goes few =
    step_resumes n text steps j (Leq left right) r is none (record {
      turns = turns;
      goes_on = goes;
      few = subst (λ k. turns < k) (work_at_step n steps j (Leq left right) (Leq 0 1) is refl (λ i h pieces. refl))
          few;
    })

pub returns-clause-operator : goal.returns-clause-operator
returns-clause-operator c n text steps j left right op r =
    step_resumes n text steps j (Pair op left right) r

pub returns-clause-choice : goal.returns-clause-choice
returns-clause-choice c n text steps j test if_one if_zero r =
    step_resumes n text steps j (Ite test if_one if_zero) r

pub returns-clause-quantifier : goal.returns-clause-quantifier
returns-clause-quantifier c n text steps j operand level kind r =
    step_resumes n text steps j (Quantify kind operand level) r

pub returns-clause-restriction : goal.returns-clause-restriction
returns-clause-restriction c n text steps j operand level value r =
    step_resumes n text steps j (Restrict operand level value) r
