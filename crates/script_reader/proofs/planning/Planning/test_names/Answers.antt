use Rattle.std.proofs.Common.{arith}
use Rattle.std.proofs.lemmas.Grind.{common_steps}
use Rattle.script_reader.proofs.planning.Planning.test_names.Goals as goal

pub returns-then-gives_name : goal.returns-then-gives_name
returns-then-gives_name c = grind (arith, common_steps)
