use Rattle.std.proofs.Common.{arith}
use Rattle.std.proofs.lemmas.Grind.{common_steps}
use Rattle.blif_reader.proofs.netlist.Netlist.visit.Goals as goal

pub visit_by-requires-clause-nodes : goal.visit_by-requires-clause-nodes
visit_by-requires-clause-nodes c = grind (arith, common_steps)

pub visit_by-requires-clause-inside : goal.visit_by-requires-clause-inside
visit_by-requires-clause-inside c = grind (arith, common_steps)

pub returns-clause-signals : goal.returns-clause-signals
returns-clause-signals c = grind (arith, common_steps)
