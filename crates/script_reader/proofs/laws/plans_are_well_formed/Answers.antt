use Rattle.script_reader.proofs.Kept.{plan_is_well_formed, plan_has_lines}
use Rattle.script_reader.proofs.laws.plans_are_well_formed.Goals as goal

pub returns-clause-steps : goal.returns-clause-steps
returns-clause-steps c = plan_is_well_formed

pub returns-clause-lines : goal.returns-clause-lines
returns-clause-lines c = plan_has_lines
