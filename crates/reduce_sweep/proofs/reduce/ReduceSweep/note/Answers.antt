use Rattle.std.proofs.Common.{arith}
use Rattle.std.proofs.lemmas.Grind.{common_steps}
use Rattle.reduce_sweep.proofs.reduce.ReduceSweep.note.Goals as goal

pub returns-clause-closed : goal.returns-clause-closed
returns-clause-closed g c = grind (arith, common_steps)
