use Rattle.std.proofs.Common.{arith}
use Rattle.std.proofs.lemmas.Grind.{common_steps}
use Rattle.blif_reader.proofs.parts.UsesIterator.next.Goals as goal

pub returns-in_err-statement-clause-steps : goal.returns-in_err-statement-clause-steps
returns-in_err-statement-clause-steps c = grind (arith, common_steps)
