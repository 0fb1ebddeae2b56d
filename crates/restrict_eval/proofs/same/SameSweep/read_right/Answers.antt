use Rattle.std.proofs.Common.{◌∙◌, sym, subst}
use Rattle.restrict_eval.specs.Same.{comparisons}
use Rattle.restrict_eval.specs.Turns.{Turns}
use Rattle.node_reading.proofs.NodeReading.{is_handed}
use Rattle.restrict_eval.proofs.SameKeeps.{found_apart, found_alike, right_read, right_differs, right_refused}
use Rattle.restrict_eval.proofs.same.SameSweep.read_right.Goals as goal

-- the reading was refused
pub returns-in_err-next_node : goal.returns-in_err-next_node
returns-in_err-next_node g c =
    subst (Turns comparisons g.S.Shelf.tells g.S.Shelf.world g.S.Shelf.faults c.args.shelf.now c.next_node.new.shelf c.args.self.now _) (sym (is_handed c.from_residual.result _ c.from_residual.ensures.1))
    (right_refused g.S.Shelf.tells g.S.Shelf.world g.S.Shelf.faults c.args.shelf.now c.next_node.new.shelf c.args.self.now c.requires.ready c.requires.in_step c.next_node.new.nodes
    c.args.node c.in_err-next_node.field-0.0 c.requires.state c.in_err-next_node.ensures.gives)

-- the nodes differ
pub returns-then-ne : goal.returns-then-ne
returns-then-ne g c =
    right_differs g.S.Shelf.tells g.S.Shelf.world g.S.Shelf.faults c.args.shelf.now c.next_node.new.shelf c.args.self.now c.requires.ready c.requires.in_step c.next_node.new.nodes
    c.args.node c.in_ok-next_node.field-0 c.requires.state (found_apart c.in_ok-next_node.field-0 c.args.node (sym c.ne.ensures ∙ c.if-ne.true)) c.in_ok-next_node.ensures.gives

-- they are the same
pub returns : goal.returns
returns g c =
    right_read g.S.Shelf.tells g.S.Shelf.world g.S.Shelf.faults c.args.shelf.now c.next_node.new.shelf c.args.self.now c.requires.ready c.requires.in_step c.next_node.new.nodes
    c.args.node c.in_ok-next_node.field-0 c.requires.state (found_alike c.in_ok-next_node.field-0 c.args.node (sym c.ne.ensures ∙ c.if-ne.false)) c.in_ok-next_node.ensures.gives
