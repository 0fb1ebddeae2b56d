use Rattle.std.proofs.Common.{arith}
use Rattle.std.proofs.lemmas.Grind.{common_steps}
use Rattle.depth_first.proofs.walk.visit_roots.Goals as goal

pub loop-root-preserved : goal.loop-root-preserved
loop-root-preserved c = grind (arith, common_steps)

pub returns-clause-walked : goal.returns-clause-walked
returns-clause-walked c = grind (arith, common_steps)
