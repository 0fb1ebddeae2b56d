use Rattle.std.proofs.Common.{refl, sym, subst}
use Rattle.std.specs.Prelude.{Ok}
use Rattle.node_reading.specs.Reading.{GivesNode}
use Rattle.node_reading.proofs.NodeReading.{is_handed}
use Rattle.restrict_eval.specs.declared.following.Following.TheVariants.{To}
use Rattle.restrict_eval.specs.Eval.{evaluations}
use Rattle.restrict_eval.specs.Turns.{Turns}
use Rattle.restrict_eval.proofs.EvalKeeps.{value_found, misses_first, follows, refuses}
use Rattle.restrict_eval.proofs.eval.EvalSweep.follow.Goals as goal

-- the path has come to a truth value
pub returns-in-Some-clause-turns : goal.returns-in-Some-clause-turns
returns-in-Some-clause-turns g c =
    value_found g.S.Shelf.tells g.S.Shelf.world g.S.Shelf.faults c.args.shelf.now c.args.self.now (record { pointer = c.args.pointer }) c.in-Some.value
    c.requires.state c.requires.ready c.requires.in_step c.in-Some.ensures.0 c.in-Some.ensures.1

-- no node is left
pub returns-in_default-2-clause-turns : goal.returns-in_default-2-clause-turns
returns-in_default-2-clause-turns g c =
    misses_first g.S.Shelf.tells g.S.Shelf.world g.S.Shelf.faults c.args.shelf.now c.next_node.new.shelf c.args.self.now c.requires.ready c.requires.in_step c.next_node.new.nodes
    (record { pointer = c.args.pointer }) c.requires.state c.in_default.ensures
    (subst (λ o. GivesNode g.S.Shelf.tells g.S.Shelf.world g.S.Shelf.faults c.args.shelf.now c.next_node.new.shelf c.args.self.now.nodes c.next_node.new.nodes (Ok o))
    c.in_default-2.is c.in_ok-node.ensures.gives)

-- a node was read
pub returns-clause-turns : goal.returns-clause-turns
returns-clause-turns g c =
    follows g.S.Shelf.tells g.S.Shelf.world g.S.Shelf.faults c.args.shelf.now c.next_node.new.shelf c.args.self.now c.requires.ready c.requires.in_step c.next_node.new.nodes
    (record { pointer = c.args.pointer }) c.requires.state c.in_default.ensures c.in-Some-2.node
    (subst (λ o. GivesNode g.S.Shelf.tells g.S.Shelf.world g.S.Shelf.faults c.args.shelf.now c.next_node.new.shelf c.args.self.now.nodes c.next_node.new.nodes (Ok o))
    c.in-Some-2.is c.in_ok-node.ensures.gives) c.after-self.result c.after-self.ensures.found c.after-self.ensures.above c.after-self.ensures.past

-- the reading was refused
pub returns-in_err-node-clause-turns : goal.returns-in_err-node-clause-turns
returns-in_err-node-clause-turns g c =
    subst (Turns evaluations g.S.Shelf.tells g.S.Shelf.world g.S.Shelf.faults c.args.shelf.now c.next_node.new.shelf c.args.self.now _)
    (sym (is_handed c.from_residual.result _ c.from_residual.ensures.1))
    (refuses g.S.Shelf.tells g.S.Shelf.world g.S.Shelf.faults c.args.shelf.now c.next_node.new.shelf c.args.self.now c.requires.ready c.requires.in_step c.next_node.new.nodes
    c.in_err-node.field-0.0 (To (record { pointer = c.args.pointer })) c.requires.state refl c.in_err-node.ensures.gives)
