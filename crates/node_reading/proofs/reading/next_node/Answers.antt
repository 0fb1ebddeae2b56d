use Rattle.std.proofs.Common.{sym, subst}
use Rattle.std.specs.Prelude.{Ok, Err}
use Rattle.node_reading.proofs.NodeReading.{is_handed}
use Rattle.node_reading.specs.Reading.{GivesNode}
use Rattle.node_reading.proofs.NodeReading.{gave}
use Rattle.node_reading.proofs.reading.next_node.Goals as goal

-- the call was refused
pub returns-in_err-next : goal.returns-in_err-next
returns-in_err-next g c = record {
  gives = subst (GivesNode g.S.Shelf.tells g.S.Shelf.world g.S.Shelf.faults c.args.shelf.now c.next.new.shelf c.args.nodes.now c.next.new.self)
      (sym (is_handed c.from_residual.result _ c.from_residual.ensures.1))
      (gave g.S.Shelf.tells g.S.Shelf.world g.S.Shelf.faults c.args.shelf.now c.next.new.shelf c.args.nodes.now c.next.new.self (Err c.in_err-next.field-0.0)
      c.requires.begun c.requires.reads (record {
        file_is = c.in_err-next.ensures.file;
        trailer_is = c.in_err-next.ensures.trailer;
        goes = c.in_err-next.ensures.place;
        place = c.in_err-next.ensures.damage;
        reads = c.in_err-next.ensures.reads;
        value = c.in_err-next.ensures.value;
        items = c.in_err-next.ensures.items;
        content = c.in_err-next.ensures.content;
        faults = c.in_err-next.ensures.faults;
      }));
}

-- it gave a node, or none
pub returns : goal.returns
returns g c = record {
  gives = gave g.S.Shelf.tells g.S.Shelf.world g.S.Shelf.faults c.args.shelf.now c.next.new.shelf c.args.nodes.now c.next.new.self (Ok c.in_ok-next.field-0)
      c.requires.begun c.requires.reads (record {
        file_is = c.in_ok-next.ensures.file;
        trailer_is = c.in_ok-next.ensures.trailer;
        goes = c.in_ok-next.ensures.place;
        place = c.in_ok-next.ensures.damage;
        reads = c.in_ok-next.ensures.reads;
        value = c.in_ok-next.ensures.value;
        items = c.in_ok-next.ensures.items;
        content = c.in_ok-next.ensures.content;
        faults = c.in_ok-next.ensures.faults;
      });
}
