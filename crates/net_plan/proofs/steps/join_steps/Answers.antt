use Rattle.std.proofs.Common.{arith}
use Rattle.std.proofs.lemmas.Grind.{common_steps}
use Rattle.net_plan.proofs.steps.join_steps.Goals as goal

pub returns-in_err-made : goal.returns-in_err-made
returns-in_err-made c = grind (arith, common_steps)
