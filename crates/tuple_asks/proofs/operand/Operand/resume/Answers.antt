use Rattle.std.proofs.Common.{◌+◌, ◌<◌, ◌∙◌, take, ap, sym, subst, inl, inr, arith}
use Rattle.node_reading.proofs.NodeReading.{if_handed}
use Rattle.node_reading.proofs.Spent.{file_not_spent}
use Rattle.node_reading.proofs.Staying.{looked_stays, stays_on}
use Rattle.node_reading.specs.Reading.{bytes_of}
use Rattle.sweep_core.specs.Saving.{reads_of}
use Rattle.tuple_asks.proofs.Staying.{looked_same}
use Rattle.tuple_asks.proofs.ResumeReading.{hand_fault, next_sound, resumed_is, resumed_read}
use Rattle.tuple_asks.proofs.operand.Operand.resume.Goals as goal

-- no node before the place can be read
pub returns-in_err-reader-clause-damage : goal.returns-in_err-reader-clause-damage
returns-in_err-reader-clause-damage g c = if_handed _ c.from_residual.result _ c.from_residual.ensures.1
    (λ told. inl (c.in_err-reader.ensures.damage told))

pub returns-in_err-reader-clause-undamaged : goal.returns-in_err-reader-clause-undamaged
returns-in_err-reader-clause-undamaged g c = if_handed _ c.from_residual.result _ c.from_residual.ensures.1
    (λ told root nodes has within. c.in_err-reader.ensures.undamaged told root nodes has (omega (arith, within)))

pub returns-in_err-reader-clause-kind : goal.returns-in_err-reader-clause-kind
returns-in_err-reader-clause-kind g c = if_handed _ c.from_residual.result _ c.from_residual.ensures.1
    c.in_err-reader.ensures.kind

-- nor the node at hand
pub returns-in_err-hand-clause-damage : goal.returns-in_err-hand-clause-damage
returns-in_err-hand-clause-damage g c = if_handed _ c.from_residual-in_err-hand.result _
    c.from_residual-in_err-hand.ensures.1 (λ told.
    let gives = c.next_node.ensures.gives in
    let before = gives.content.before told in
    let old = g.S.Shelf.world c.args.shelf.now in
    let mid = g.S.Shelf.world c.resume_at.new.shelf in
    let r = c.in_ok-reader.reader in
    inr (hand_fault c.args.n c.args.file r mid (reads_of old) c.in_err-hand.field-0.0 c.in_ok-reader.ensures.file
    c.in_ok-reader.ensures.variables
    (ap (λ f. reads_of mid f) c.in_ok-reader.ensures.file
    ∙ looked_same old mid (c.resume_at.ensures.content.did before) c.args.file)
    (c.in_err-hand.ensures.gives.damage told)))

pub returns-in_err-hand-clause-undamaged : goal.returns-in_err-hand-clause-undamaged
returns-in_err-hand-clause-undamaged g c = if_handed _ c.from_residual-in_err-hand.result _
    c.from_residual-in_err-hand.ensures.1 (λ told root nodes has within.
    let gives = c.in_err-hand.ensures.gives in
    let before = c.next_node.ensures.gives.content.before told in
    let xs = take (c.args.place + 1) nodes in
    next_sound c.next_node.new.nodes (bytes_of c.in_ok-reader.reader (g.S.Shelf.world c.resume_at.new.shelf)) xs _
    (gives.items told xs (c.in_ok-reader.ensures.nodes before root nodes has).2))

pub returns-in_err-hand-clause-kind : goal.returns-in_err-hand-clause-kind
returns-in_err-hand-clause-kind g c = if_handed _ c.from_residual-in_err-hand.result _
    c.from_residual-in_err-hand.ensures.1 (file_not_spent _ _ c.in_err-hand.ensures.gives.refused)

pub returns-in_err-hand-clause-content : goal.returns-in_err-hand-clause-content
returns-in_err-hand-clause-content g c = stays_on g.S.Shelf.tells g.S.Shelf.world _ _ _ c.resume_at.ensures.content
    (looked_stays g.S.Shelf.tells g.S.Shelf.world 1 _ _ c.next_node.ensures.gives.content)

pub returns-clause-content : goal.returns-clause-content
returns-clause-content g c = stays_on g.S.Shelf.tells g.S.Shelf.world _ _ _ c.resume_at.ensures.content
    (looked_stays g.S.Shelf.tells g.S.Shelf.world 1 _ _ c.next_node.ensures.gives.content)

-- the node at hand was given
pub returns-clause-is : goal.returns-clause-is
returns-clause-is g c =
    let gives = c.in_ok-hand.ensures.gives in
    let place : 0 < c.args.place + 1 = omega arith in
    resumed_is c.args.n c.args.file c.in_ok-reader.reader c.next_node.new.nodes c.in_ok-hand.hand
    (subst (λ k. 0 < k) (sym c.in_ok-reader.ensures.place) place) c.in_ok-reader.ensures.file
    c.in_ok-reader.ensures.variables gives.file_is gives.trailer_is gives.begun gives.rises

pub returns-clause-nodes : goal.returns-clause-nodes
returns-clause-nodes g c = λ told root nodes has within.
    let gives = c.in_ok-hand.ensures.gives in
    let before = c.next_node.ensures.gives.content.before told in
    let known = c.in_ok-reader.ensures.nodes before root nodes has in
    resumed_read c.args.file c.in_ok-reader.reader c.next_node.new.nodes c.in_ok-hand.hand
    (g.S.Shelf.world c.resume_at.new.shelf) (g.S.Shelf.world c.next_node.new.shelf) root c.args.place nodes within known.0
    gives.trailer_is (gives.same told) (gives.reads told) (gives.items told (take (c.args.place + 1) nodes) known.2)

-- and few calls are made
pub returns-in_err-reader-clause-calls : goal.returns-in_err-reader-clause-calls
returns-in_err-reader-clause-calls g c = λ told. let first = c.resume_at.ensures.calls told in omega (arith, first)

pub returns-in_err-hand-clause-calls : goal.returns-in_err-hand-clause-calls
returns-in_err-hand-clause-calls g c = λ told.
    let content = c.next_node.ensures.gives.content in
    let first = c.resume_at.ensures.calls (content.before told) in
    let few = (content.did told).few in
    omega (arith, first, few)

pub returns-clause-calls : goal.returns-clause-calls
returns-clause-calls g c = λ told.
    let content = c.next_node.ensures.gives.content in
    let first = c.resume_at.ensures.calls (content.before told) in
    let few = (content.did told).few in
    omega (arith, first, few)
