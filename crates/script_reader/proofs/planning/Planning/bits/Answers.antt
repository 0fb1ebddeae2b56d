use Rattle.std.proofs.Common.{arith}
use Rattle.std.proofs.lemmas.Grind.{common_steps}
use Rattle.script_reader.proofs.planning.Planning.bits.Goals as goal

pub returns-then-words-eq3 : goal.returns-then-words-eq3
returns-then-words-eq3 c = grind (arith, common_steps)

pub returns : goal.returns
returns c = grind (arith, common_steps)
