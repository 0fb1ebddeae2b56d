use Rattle.std.proofs.Common.{arith}
use Rattle.std.proofs.lemmas.Grind.{common_steps}
use Rattle.blif_reader.proofs.soundness.drive.Goals as goal

pub returns-in-Some-line_missing : goal.returns-in-Some-line_missing
returns-in-Some-line_missing c = grind (arith, common_steps)

pub returns : goal.returns
returns c = grind (arith, common_steps)
