use Rattle.node_reading.specs.Reading.{bytes_of, count_of, IsItsNode, Rises}
use Rattle.node_file.specs.Readers.{left_of}
use Rattle.shelf_model.specs.World.{file}
use Rattle.tuple_asks.specs.Knowing.{KnowsBelow}
use Rattle.tuple_asks.proofs.OperandReading.{node_below}
use Rattle.tuple_asks.specs.declared.operand.Operand.{Operand}
use Rattle.tuple_asks.proofs.OperandNext.{reads_next, next_undamaged, never_passed}
use Rattle.std.proofs.Common.{◌≡◌, ◌<◌, ◌∙◌, sym, subst, arith, tests}
use Rattle.std.specs.Prelude.{Option, Some, Ok, Err}
use Rattle.rec_words.specs.declared.node.Node.{Node}
use Rattle.node_reading.proofs.NodeReading.{if_handed, gave}
use Rattle.tuple_asks.proofs.OperandReading.{fault_read, next_refused, same_some}
use Rattle.tuple_asks.proofs.operand.Operand.read.Goals.{in_default-via-in-Some+else-le, in_default-via-in_default}
use Rattle.tuple_asks.proofs.operand.Operand.read.Goals as goal

-- the reader refused it
pub returns-in_err-hand-clause-damaged : goal.returns-in_err-hand-clause-damaged
returns-in_err-hand-clause-damaged g c = if_handed _ c.from_residual.result _
    c.from_residual.ensures.1 (λ told n is reading behind.
    let gives = gave g.S.Shelf.tells g.S.Shelf.world g.S.Shelf.faults c.args.shelf.now
    c.next.new.shelf c.args.self.now.reader c.next.new.self (Err c.in_err-hand.field-0.0)
    is.begun (λ _. reading) (record {
      file_is = c.in_err-hand.ensures.file;
      trailer_is = c.in_err-hand.ensures.trailer;
      goes = c.in_err-hand.ensures.place;
      place = c.in_err-hand.ensures.damage;
      reads = c.in_err-hand.ensures.reads;
      value = c.in_err-hand.ensures.value;
      items = c.in_err-hand.ensures.items;
      content = c.in_err-hand.ensures.content;
      faults = c.in_err-hand.ensures.faults;
    }) in
    fault_read n c.args.self.now c.next.new.self (g.S.Shelf.world c.args.shelf.now)
    (g.S.Shelf.world c.next.new.shelf) c.args.key is reading behind c.in_err-hand.ensures.file
    c.in_err-hand.ensures.trailer (gives.same told) _ (gives.damage told))

-- a node was read
pub returns-in-Some-clause-reads : goal.returns-in-Some-clause-reads
returns-in-Some-clause-reads g c told n is reading =
    (gave g.S.Shelf.tells g.S.Shelf.world g.S.Shelf.faults c.args.shelf.now c.next.new.shelf
    c.args.self.now.reader c.next.new.self (Ok c.in_ok-hand.hand) is.begun (λ _. reading)
    (record {
      file_is = c.in_ok-hand.ensures.file;
      trailer_is = c.in_ok-hand.ensures.trailer;
      goes = c.in_ok-hand.ensures.place;
      place = c.in_ok-hand.ensures.damage;
      reads = c.in_ok-hand.ensures.reads;
      value = c.in_ok-hand.ensures.value;
      items = c.in_ok-hand.ensures.items;
      content = c.in_ok-hand.ensures.content;
      faults = c.in_ok-hand.ensures.faults;
    })).reads told

-- there is none, or it comes behind the wanted one
pub returns-in_default-clause-damaged : goal.returns-in_default-clause-damaged
returns-in_default-clause-damaged g c told n is reading behind =
    let gives = gave g.S.Shelf.tells g.S.Shelf.world g.S.Shelf.faults c.args.shelf.now
    c.next.new.shelf c.args.self.now.reader c.next.new.self (Ok c.in_ok-hand.hand) is.begun
    (λ _. reading) (record {
      file_is = c.in_ok-hand.ensures.file;
      trailer_is = c.in_ok-hand.ensures.trailer;
      goes = c.in_ok-hand.ensures.place;
      place = c.in_ok-hand.ensures.damage;
      reads = c.in_ok-hand.ensures.reads;
      value = c.in_ok-hand.ensures.value;
      items = c.in_ok-hand.ensures.items;
      content = c.in_ok-hand.ensures.content;
      faults = c.in_ok-hand.ensures.faults;
    }) in
    let later : (x : Node) → c.in_ok-hand.hand ≡ Some x
    → c.args.key < x.uid = λ x found. elim c.in_default.branch [
      | in_default-via-in-Some+else-le w ↦ (let no = sym w.le.ensures ∙ w.if-le.false in
          let behind_key : c.args.key < w.in-Some.node.uid = grind (arith, tests) in
          subst (λ (y : Node). c.args.key < y.uid)
          (same_some w.in-Some.node x (sym w.in-Some.is ∙ found)) behind_key)
      | in_default-via-in_default w ↦ absurd (w.in_default.not-Some x found)
    ] in
    next_refused n c.args.self.now c.next.new.self (g.S.Shelf.world c.args.shelf.now)
    (g.S.Shelf.world c.next.new.shelf) c.args.key is reading behind c.in_ok-hand.ensures.file
    c.in_ok-hand.ensures.trailer (gives.same told) c.in_ok-hand.hand _ gives.rises
    (gives.value told) later c.damage.ensures.place

-- of the nodes that weren't read the last one was read
pub returns-in-Some-clause-next : goal.returns-in-Some-clause-next
returns-in-Some-clause-next g c told r read =
    let after : Operand = record c.args.self.now {
      reader = c.next.new.self;
      hand = c.in_ok-hand.hand;
    } in
    reads_next c.args.self.now after c.in-Some.node (g.S.Shelf.world c.args.shelf.now)
    (g.S.Shelf.world c.next.new.shelf) r c.in_ok-hand.ensures.file c.in_ok-hand.ensures.trailer
    (c.in_ok-hand.ensures.content.did told) (c.in_ok-hand.ensures.reads told read.reads.reads)
    (c.in_ok-hand.ensures.items told read.reads.reads r.unread read.left) c.in-Some.is read

-- where one is left no later than the key, no damage is found
pub returns-in_err-hand-clause-undamaged : goal.returns-in_err-hand-clause-undamaged
returns-in_err-hand-clause-undamaged g c = if_handed _ c.from_residual.result _
    c.from_residual.ensures.1 (λ told r read next. next_undamaged c.next.new.self
    (bytes_of c.args.self.now.reader (g.S.Shelf.world c.args.shelf.now)) r.unread
    c.in_err-hand.field-0.0
    (c.in_err-hand.ensures.items told read.reads.reads r.unread read.left))

pub returns-in_default-clause-undamaged : goal.returns-in_default-clause-undamaged
returns-in_default-clause-undamaged g c told r read next =
    let later : (x : Node) → c.in_ok-hand.hand ≡ Some x
    → c.args.key < x.uid = λ x found. elim c.in_default.branch [
      | in_default-via-in-Some+else-le w ↦ (let no = sym w.le.ensures ∙ w.if-le.false in
          let behind_key : c.args.key < w.in-Some.node.uid = grind (arith, tests) in
          subst (λ (y : Node). c.args.key < y.uid)
          (same_some w.in-Some.node x (sym w.in-Some.is ∙ found)) behind_key)
      | in_default-via-in_default w ↦ absurd (w.in_default.not-Some x found)
    ] in
    absurd (never_passed c.next.new.self
    (bytes_of c.args.self.now.reader (g.S.Shelf.world c.args.shelf.now)) c.args.key r c.in_ok-hand.hand
    (c.in_ok-hand.ensures.items told read.reads.reads r.unread read.left) later next)

-- the node that was read leads to pointers that its file names
pub returns-in-Some-clause-below : goal.returns-in-Some-clause-below
returns-in-Some-clause-below g c told n is reading =
    let gives = gave g.S.Shelf.tells g.S.Shelf.world g.S.Shelf.faults c.args.shelf.now
    c.next.new.shelf c.args.self.now.reader c.next.new.self (Ok c.in_ok-hand.hand) is.begun
    (λ _. reading) (record {
      file_is = c.in_ok-hand.ensures.file;
      trailer_is = c.in_ok-hand.ensures.trailer;
      goes = c.in_ok-hand.ensures.place;
      place = c.in_ok-hand.ensures.damage;
      reads = c.in_ok-hand.ensures.reads;
      value = c.in_ok-hand.ensures.value;
      items = c.in_ok-hand.ensures.items;
      content = c.in_ok-hand.ensures.content;
      faults = c.in_ok-hand.ensures.faults;
    }) in
    let old = g.S.Shelf.world c.args.shelf.now in
    let bytes = bytes_of c.args.self.now.reader old in
    let node : IsItsNode c.next.new.self bytes (Ok (Some c.in-Some.node)) =
    subst (λ (h : Option Node). IsItsNode c.next.new.self bytes (Ok h)) c.in-Some.is (gives.value told) in
    let rises : Rises c.args.self.now.reader c.next.new.self (Ok (Some c.in-Some.node)) =
    subst (λ (h : Option Node). Rises c.args.self.now.reader c.next.new.self (Ok h)) c.in-Some.is gives.rises in
    let among : left_of c.next.new.self < count_of bytes = (let fewer = rises.1 in let within = c.args.self.now.reader.within in
    let count = reading.count in omega (arith, fewer, within, count)) in
    subst (λ f. KnowsBelow (file old f).bytes c.in_ok-hand.hand) is.file_is
    (subst (KnowsBelow bytes) (sym c.in-Some.is) (node_below _ (left_of c.next.new.self) bytes c.in-Some.node node among))
