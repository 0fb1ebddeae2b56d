use Rattle.std.proofs.Common.{arith}
use Rattle.std.proofs.lemmas.Grind.{common_steps}
use Rattle.blif_reader.proofs.names.Names.bounds.Goals as goal

pub returns-then-place-eq0-clause-end : goal.returns-then-place-eq0-clause-end
returns-then-place-eq0-clause-end c = grind (arith, common_steps)

pub returns-then-place-eq0-clause-within : goal.returns-then-place-eq0-clause-within
returns-then-place-eq0-clause-within c = grind (arith, common_steps)

pub returns-clause-start : goal.returns-clause-start
returns-clause-start c = grind (arith, common_steps)

pub returns-clause-end : goal.returns-clause-end
returns-clause-end c = grind (arith, common_steps)
