use Rattle.std.proofs.Common.{◌∙◌, sym, subst}
use Rattle.std.specs.Prelude.{Ok}
use Rattle.restrict_eval.specs.Same.{comparisons}
use Rattle.restrict_eval.specs.Turns.{Turns}
use Rattle.node_reading.specs.Reading.{GivesNode}
use Rattle.node_reading.proofs.NodeReading.{is_handed}
use Rattle.restrict_eval.proofs.SameKeeps.{trailers_apart, trailers_alike, trailers_differ, left_read, left_ends, left_refused}
use Rattle.restrict_eval.proofs.same.SameSweep.read_left.Goals as goal

-- the trailers differ
pub returns-then-ne : goal.returns-then-ne
returns-then-ne g c = trailers_differ g.S.Shelf.tells g.S.Shelf.world g.S.Shelf.faults c.args.shelf.now c.args.self.now c.requires.state c.requires.ready c.requires.in_step
    (λ same. trailers_apart c.trailer.result c.trailer-2.result (sym c.ne.ensures ∙ c.if-ne.true) (c.trailer.ensures ∙ same ∙ sym c.trailer-2.ensures))

-- the reading was refused
pub returns-in_err-node : goal.returns-in_err-node
returns-in_err-node g c =
    subst (Turns comparisons g.S.Shelf.tells g.S.Shelf.world g.S.Shelf.faults c.args.shelf.now c.next_node.new.shelf c.args.self.now _) (sym (is_handed c.from_residual.result _ c.from_residual.ensures.1))
    (left_refused g.S.Shelf.tells g.S.Shelf.world g.S.Shelf.faults c.args.shelf.now c.next_node.new.shelf c.args.self.now c.requires.ready c.requires.in_step c.next_node.new.nodes
    c.in_err-node.field-0.0 c.requires.state c.in_err-node.ensures.gives)

-- the first file has no more nodes
pub returns-in_default : goal.returns-in_default
returns-in_default g c =
    left_ends g.S.Shelf.tells g.S.Shelf.world g.S.Shelf.faults c.args.shelf.now c.next_node.new.shelf c.args.self.now c.requires.ready c.requires.in_step c.next_node.new.nodes
    c.requires.state (sym c.trailer.ensures ∙ trailers_alike c.trailer.result c.trailer-2.result (sym c.ne.ensures ∙ c.if-ne.false) ∙ c.trailer-2.ensures)
    (subst (λ o. GivesNode g.S.Shelf.tells g.S.Shelf.world g.S.Shelf.faults c.args.shelf.now c.next_node.new.shelf c.args.self.now.left c.next_node.new.nodes (Ok o)) c.in_default.is c.in_ok-node.ensures.gives)

-- a node was read
pub returns : goal.returns
returns g c =
    left_read g.S.Shelf.tells g.S.Shelf.world g.S.Shelf.faults c.args.shelf.now c.next_node.new.shelf c.args.self.now c.requires.ready c.requires.in_step c.next_node.new.nodes
    c.in-Some.node c.requires.state
    (subst (λ o. GivesNode g.S.Shelf.tells g.S.Shelf.world g.S.Shelf.faults c.args.shelf.now c.next_node.new.shelf c.args.self.now.left c.next_node.new.nodes (Ok o)) c.in-Some.is c.in_ok-node.ensures.gives)
