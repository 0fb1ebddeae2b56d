use Rattle.std.proofs.Common.{arith}
use Rattle.std.proofs.lemmas.Grind.{common_steps}
use Rattle.blif_reader.proofs.netlist.Netlist.visits.Goals as goal

pub visit_order-requires-clause-few : goal.visit_order-requires-clause-few
visit_order-requires-clause-few c = grind (arith, common_steps)

pub visit_order-requires-clause-inside : goal.visit_order-requires-clause-inside
visit_order-requires-clause-inside c = grind (arith, common_steps)

pub returns-clause-signals : goal.returns-clause-signals
returns-clause-signals c = grind (arith, common_steps)
