use Rattle.std.proofs.Common.{arith}
use Rattle.std.proofs.lemmas.Grind.{common_steps}
use Rattle.blif_reader.proofs.read.settle.Goals as goal

pub first_cycle-requires-clause-few : goal.first_cycle-requires-clause-few
first_cycle-requires-clause-few c = grind (arith, common_steps)

pub returns-after-get : goal.returns-after-get
returns-after-get c = grind (arith, common_steps)
