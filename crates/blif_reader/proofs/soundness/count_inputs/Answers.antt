use Rattle.std.proofs.Common.{arith}
use Rattle.std.proofs.lemmas.Grind.{common_steps}
use Rattle.blif_reader.proofs.soundness.count_inputs.Goals as goal

pub returns-then-count-gt-MOST_INPUTS : goal.returns-then-count-gt-MOST_INPUTS
returns-then-count-gt-MOST_INPUTS c = grind (arith, common_steps)

pub returns : goal.returns
returns c = grind (arith, common_steps)
