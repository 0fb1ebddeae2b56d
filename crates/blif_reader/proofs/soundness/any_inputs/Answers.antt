use Rattle.std.proofs.Common.{arith}
use Rattle.std.proofs.lemmas.Grind.{common_steps}
use Rattle.blif_reader.proofs.soundness.any_inputs.Goals as goal

pub returns-then-matches : goal.returns-then-matches
returns-then-matches c = grind (arith, common_steps)

pub loop-statement-preserved : goal.loop-statement-preserved
loop-statement-preserved c = grind (arith, common_steps)

pub returns : goal.returns
returns c = grind (arith, common_steps)
