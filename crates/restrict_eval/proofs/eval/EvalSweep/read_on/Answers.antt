use Rattle.std.proofs.Common.{refl, sym, subst}
use Rattle.std.specs.Prelude.{Ok}
use Rattle.node_reading.specs.Reading.{GivesNode}
use Rattle.node_reading.proofs.NodeReading.{is_handed}
use Rattle.restrict_eval.specs.declared.following.Following.TheVariants.{Past}
use Rattle.restrict_eval.specs.Eval.{evaluations}
use Rattle.restrict_eval.specs.Turns.{Turns}
use Rattle.restrict_eval.proofs.EvalKeeps.{reads_on, misses_beside, refuses}
use Rattle.restrict_eval.proofs.eval.EvalSweep.read_on.Goals as goal

-- a node was read
pub returns-in-Some-clause-turns : goal.returns-in-Some-clause-turns
returns-in-Some-clause-turns g c =
    reads_on g.S.Shelf.tells g.S.Shelf.world g.S.Shelf.faults c.args.shelf.now c.next_node.new.shelf c.args.self.now c.requires.ready c.requires.in_step c.next_node.new.nodes
    c.in-Some.field-0 c.args.place c.requires.state
    (subst (λ o. GivesNode g.S.Shelf.tells g.S.Shelf.world g.S.Shelf.faults c.args.shelf.now c.next_node.new.shelf c.args.self.now.nodes c.next_node.new.nodes (Ok o))
    c.in-Some.is c.in_ok-next_node.ensures.gives)

-- none is left
pub returns-in-None-clause-turns : goal.returns-in-None-clause-turns
returns-in-None-clause-turns g c =
    misses_beside g.S.Shelf.tells g.S.Shelf.world g.S.Shelf.faults c.args.shelf.now c.next_node.new.shelf c.args.self.now c.requires.ready c.requires.in_step c.next_node.new.nodes
    c.args.place c.requires.state
    (subst (λ o. GivesNode g.S.Shelf.tells g.S.Shelf.world g.S.Shelf.faults c.args.shelf.now c.next_node.new.shelf c.args.self.now.nodes c.next_node.new.nodes (Ok o))
    c.in-None.is c.in_ok-next_node.ensures.gives)

-- the reading was refused
pub returns-in_err-next_node-clause-turns : goal.returns-in_err-next_node-clause-turns
returns-in_err-next_node-clause-turns g c =
    subst (Turns evaluations g.S.Shelf.tells g.S.Shelf.world g.S.Shelf.faults c.args.shelf.now c.next_node.new.shelf c.args.self.now _)
    (sym (is_handed c.from_residual.result _ c.from_residual.ensures.1))
    (refuses g.S.Shelf.tells g.S.Shelf.world g.S.Shelf.faults c.args.shelf.now c.next_node.new.shelf c.args.self.now c.requires.ready c.requires.in_step c.next_node.new.nodes
    c.in_err-next_node.field-0.0 (Past c.args.place) c.requires.state refl c.in_err-next_node.ensures.gives)
