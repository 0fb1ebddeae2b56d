use Rattle.std.proofs.Common.{arith}
use Rattle.std.proofs.lemmas.Grind.{common_steps}
use Rattle.net_plan.proofs.covers.push_sum.Goals as goal

pub returns-in_err-made : goal.returns-in_err-made
returns-in_err-made c = grind (arith, common_steps)

pub returns-in_err-put_step : goal.returns-in_err-put_step
returns-in_err-put_step c = grind (arith, common_steps)
