use Rattle.std.proofs.Common.{subst}
use Rattle.std.specs.Prelude.{IfSome}
use Rattle.copied_diagrams.specs.Operands.{pair_table}
use Rattle.node_file.specs.Canonical.{IsMade}
use Rattle.room_products.proofs.join.join_in_room.Goals as goal

-- the diagram is the one that was made
pub returns-clause-made : goal.returns-clause-made
returns-clause-made g c told t u left right =
    subst (λ o. IfSome o (λ m. IsMade c.args.n (pair_table c.args.n c.args.op t u) c.args.out m.nodes
    (g.S.Shelf.world c.join_parts.new.shelf))) c.in-Some-made.is (c.in_ok-made.ensures.made told t u left right)
