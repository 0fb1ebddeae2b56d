use Rattle.std.proofs.Common.{arith}
use Rattle.std.proofs.lemmas.Grind.{common_steps}
use Rattle.depth_first.proofs.search.reach.Goals as goal

pub returns-in_ok-push : goal.returns-in_ok-push
returns-in_ok-push c = grind (arith, common_steps)

pub returns-else-not-was : goal.returns-else-not-was
returns-else-not-was c = grind (arith, common_steps)
