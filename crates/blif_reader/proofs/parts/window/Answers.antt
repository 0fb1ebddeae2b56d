use Rattle.std.proofs.Common.{arith}
use Rattle.std.proofs.lemmas.Grind.{common_steps}
use Rattle.blif_reader.proofs.parts.window.Goals as goal

pub returns-in-Inputs-Inputs : goal.returns-in-Inputs-Inputs
returns-in-Inputs-Inputs c = grind (arith, common_steps)
