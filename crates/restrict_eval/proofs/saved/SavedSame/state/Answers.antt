use Rattle.std.proofs.Common.{◌≡◌, subst, rules}
use Rattle.std.specs.Prelude.{Ok, None}
use Rattle.node_reading.specs.Reading.{bytes_of, GivesOf}
use Rattle.restrict_eval.proofs.Canonical.{one_more}
use Rattle.restrict_eval.proofs.saved.SavedSame.state.Goals as goal

-- the node at hand was given again
pub returns-clause-goes_on : goal.returns-clause-goes_on
returns-clause-goes_on g c = λ told nodes given but.
    let gives = c.in_ok-node.ensures.gives in
    let none : c.args.self.now.answer ≡ None = search rules in
    let old = bytes_of c.args.left.now (g.S.Shelf.world c.args.shelf.now) in (
      none,
      one_more c.args.left.now c.next_node.new.nodes old
          (bytes_of c.next_node.new.nodes (g.S.Shelf.world c.next_node.new.shelf)) nodes given c.in-Some-2.node
          (gives.same told)
          (λ xs left. subst (λ o. GivesOf c.next_node.new.nodes old xs (Ok o)) c.in-Some-2.is (gives.items told xs left)) but,
    )
