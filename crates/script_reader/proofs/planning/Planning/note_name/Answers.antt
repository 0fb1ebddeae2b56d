use Rattle.std.proofs.Common.{arith}
use Rattle.std.proofs.lemmas.Grind.{common_steps}
use Rattle.script_reader.proofs.planning.Planning.note_name.Goals as goal

pub returns-in-Drop : goal.returns-in-Drop
returns-in-Drop c = grind (arith, common_steps)

pub returns-in_ok-put_name-in_default : goal.returns-in_ok-put_name-in_default
returns-in_ok-put_name-in_default c = grind (arith, common_steps)
