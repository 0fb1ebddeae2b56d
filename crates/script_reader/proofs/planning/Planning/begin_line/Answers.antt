use Rattle.std.proofs.Common.{arith}
use Rattle.std.proofs.lemmas.Grind.{common_steps}
use Rattle.script_reader.proofs.planning.Planning.begin_line.Goals as goal

pub returns-in_err-keyword-clause-keyword : goal.returns-in_err-keyword-clause-keyword
returns-in_err-keyword-clause-keyword c = grind (arith, common_steps)

pub returns-then-not-is_formed-clause-keyword : goal.returns-then-not-is_formed-clause-keyword
returns-then-not-is_formed-clause-keyword c = grind (arith, common_steps)

pub returns-clause-keyword : goal.returns-clause-keyword
returns-clause-keyword c = grind (arith, common_steps)
