use Rattle.std.proofs.Common.{arith}
use Rattle.std.proofs.lemmas.Grind.{common_steps}
use Rattle.canon_file.proofs.plain.add_trailer.Goals as goal

pub returns : goal.returns
returns c = grind (arith, common_steps)
