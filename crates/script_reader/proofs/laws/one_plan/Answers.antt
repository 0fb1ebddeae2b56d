use Rattle.script_reader.specs.Keywords.{built_words}
use Rattle.script_reader.proofs.Kept.{plan_is_well_formed, plan_has_lines}
use Rattle.script_reader.proofs.PlanReads.{one_plan, plan_or_refusal, text_is_short}
use Rattle.script_reader.proofs.laws.one_plan.Goals as goal

pub returns-clause-one : goal.returns-clause-one
returns-clause-one c = one_plan

pub returns-clause-unrefused : goal.returns-clause-unrefused
returns-clause-unrefused c = plan_or_refusal

pub returns-clause-short : goal.returns-clause-short
returns-clause-short c = text_is_short

pub returns-clause-well_formed : goal.returns-clause-well_formed
returns-clause-well_formed c = λ netlist text plan. plan_is_well_formed built_words netlist text plan

pub returns-clause-lines : goal.returns-clause-lines
returns-clause-lines c = λ netlist text plan. plan_has_lines built_words netlist text plan
