use Rattle.arc_diagrams.proofs.CanonArcs.{canon_is_diagram, constant_is_diagram}
use Rattle.arc_diagrams.proofs.laws.canonical_nodes_are_a_diagram.Goals as goal

pub returns : goal.returns
returns c = record { nodes = canon_is_diagram; constant = constant_is_diagram }
