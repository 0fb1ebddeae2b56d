use Rattle.std.proofs.Common.{arith}
use Rattle.std.proofs.lemmas.Grind.{common_steps}
use Rattle.net_plan.proofs.plan.mark_wanted.Goals as goal

pub loop-signal-init : goal.loop-signal-init
loop-signal-init c = grind (arith, common_steps)

pub loop-signal-preserved : goal.loop-signal-preserved
loop-signal-preserved c = grind (arith, common_steps)

pub returns : goal.returns
returns c = grind (arith, common_steps)
