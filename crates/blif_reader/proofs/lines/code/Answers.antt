use Rattle.std.proofs.Common.{arith}
use Rattle.std.proofs.lemmas.Grind.{common_steps}
use Rattle.blif_reader.proofs.lines.code.Goals as goal

pub returns-then-ends_with_backslash-clause-within :
    goal.returns-then-ends_with_backslash-clause-within
returns-then-ends_with_backslash-clause-within c = grind (arith, common_steps)

pub returns-else-ends_with_backslash-clause-within :
    goal.returns-else-ends_with_backslash-clause-within
returns-else-ends_with_backslash-clause-within c = grind (arith, common_steps)
