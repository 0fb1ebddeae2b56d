use Rattle.tuple_asks.proofs.StartKeeps.{begins_unread}
use Rattle.shelf_model.specs.SortFaults.{handed_on}
use Rattle.sweep_core.specs.Sweeps.{IsNoDamage}
use Rattle.std.proofs.Common.{refl, subst, sym}
use Rattle.std.specs.Prelude.{IsSome}
use Rattle.node_reading.proofs.NodeReading.{starts_reading, trailer_fault, if_handed}
use Rattle.tuple_asks.proofs.Staying.{looked_same}
use Rattle.tuple_asks.proofs.operand.Operand.start.Goals as goal

-- no node was given
pub returns-clause-is : goal.returns-clause-is
returns-clause-is g c = record {
  file_is = c.in_ok-reader.ensures.file;
  variables_are = c.in_ok-reader.ensures.variables;
  hand_is = tt;
  given_is = c.in_ok-reader.ensures.place;
  begun = λ given. (let none = subst IsSome c.in_ok-reader.ensures.given given in absurd (cc));
}

-- the trailer is that of the file
pub returns-clause-reading : goal.returns-clause-reading
returns-clause-reading g c told = starts_reading c.in_ok-reader.reader c.args.file c.args.n
    (g.S.Shelf.world c.args.shelf.now) (g.S.Shelf.world c.start.new.shelf)
    c.in_ok-reader.ensures.file c.in_ok-reader.ensures.variables c.in_ok-reader.ensures.reads
    (c.in_ok-reader.ensures.trailer told)
    (looked_same (g.S.Shelf.world c.args.shelf.now) (g.S.Shelf.world c.start.new.shelf)
    (c.start.ensures.content.did told).run c.args.file)

-- it has no trailer where it had to stand
pub returns-in_err-reader-clause-trailer : goal.returns-in_err-reader-clause-trailer
returns-in_err-reader-clause-trailer g c = if_handed _ c.from_residual.result _
    c.from_residual.ensures.1 (λ told.
    let old = g.S.Shelf.world c.args.shelf.now in
    trailer_fault c.args.file c.args.n old old c.in_err-reader.field-0.0 refl
    c.in_err-reader.ensures.damage (c.in_err-reader.ensures.damaged told))

-- all nodes of the file are left
pub returns-clause-nodes : goal.returns-clause-nodes
returns-clause-nodes g c told root nodes is = begins_unread c.in_ok-reader.reader c.args.file
    c.args.n root nodes (g.S.Shelf.world c.args.shelf.now) (g.S.Shelf.world c.start.new.shelf)
    c.in_ok-reader.ensures.file c.in_ok-reader.ensures.variables
    c.in_ok-reader.ensures.reads (c.in_ok-reader.ensures.trailer told)
    (looked_same (g.S.Shelf.world c.args.shelf.now) (g.S.Shelf.world c.start.new.shelf)
    (c.start.ensures.content.did told).run c.args.file) is
    (c.in_ok-reader.ensures.nodes told root nodes is).1

-- and then it isn't damaged
pub returns-in_err-reader-clause-undamaged : goal.returns-in_err-reader-clause-undamaged
returns-in_err-reader-clause-undamaged g c = if_handed _ c.from_residual.result _
    c.from_residual.ensures.1 (λ told root nodes is.
    subst (λ e. IsNoDamage (handed_on e)) (sym (c.in_err-reader.ensures.sound told root nodes is)) tt)
