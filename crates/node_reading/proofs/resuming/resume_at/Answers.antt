use Rattle.std.proofs.Common.{◌∙◌, sym, ap, subst, refl, take}
use Rattle.shelf_model.specs.World.{file}
use Rattle.node_file.specs.Readers.{AreLeft}
use Rattle.node_reading.proofs.NodeReading.{if_handed, looked_same}
use Rattle.node_reading.proofs.Roots.{root_read}
use Rattle.node_reading.proofs.Spent.{not_spent}
use Rattle.node_reading.proofs.Staying.{looked_stays, stays_on}
use Rattle.node_reading.proofs.resuming.resume_at.Goals as goal

-- it isn't for want of a part number that they can't be read
pub returns-in_err-nodes-clause-kind : goal.returns-in_err-nodes-clause-kind
returns-in_err-nodes-clause-kind g c = if_handed _ c.from_residual.result _ c.from_residual.ensures.1
    (not_spent c.in_err-nodes.field-0.0)

-- the nodes were read, and the gate was asked for its length
pub returns-then-place-unread-clause-content : goal.returns-then-place-unread-clause-content
returns-then-place-unread-clause-content g c =
    stays_on g.S.Shelf.tells g.S.Shelf.world _ _ _
    (looked_stays g.S.Shelf.tells g.S.Shelf.world _ _ _ c.resume.ensures.content) c.checkpoint_place.ensures.content

-- the nodes before the place are left
pub returns-clause-nodes : goal.returns-clause-nodes
returns-clause-nodes g c told root xs is =
    let said = c.in_ok-nodes.ensures in
    let n = c.args.n in
    let f = c.args.unread.file in
    let old = g.S.Shelf.world c.args.shelf.now in
    let new = g.S.Shelf.world c.resume.new.shelf in
    let nodes = said.nodes told root xs is in (
      root_read n _ root xs (file old f).bytes (said.trailer told).0 is,
      nodes.0,
      subst (λ bytes. AreLeft c.in_ok-nodes.nodes bytes (take c.args.unread.place xs))
          (sym (ap (λ g. (file new g).bytes) said.file ∙ looked_same _ f f old new (said.content.did told) refl)) nodes.1,
    )
