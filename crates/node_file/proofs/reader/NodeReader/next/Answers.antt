use Rattle.std.proofs.Common.{◌≡◌, ℕ, ◌+◌, ◌-◌, ◌∷◌, [], ◌++◌, List, ap, sym, subst, ◌∙◌, arith}
use Rattle.std.specs.Prelude.{Ok, Some, Err}
use Rattle.std.proofs.lemmas.Result.{err_from_is_err_and}
use Rattle.rec_words.specs.Records.{node_words, IsNode}
use Rattle.canon_file.specs.Members.{Has}
use Rattle.canon_file.specs.NodeFiles.{IsDescending}
use Rattle.shelf_model.specs.World.{file}
use Rattle.block_stream.specs.Backwards.{reading_of, room_of}
use Rattle.block_stream.specs.Reads.{IsAnswer, IsRecordOf, GoesBack, TakesBehind, place_of}
use Rattle.block_stream.specs.Items.{AreBehind, GivesLast}
use Rattle.node_file.specs.Readers.{file_of}
use Rattle.node_file.proofs.NodeLaws.{identifier_is, from_sound, node_at, err_value, err_place, place_value, place_next, fine_node, has_front, descend_front, above_last}
use Rattle.node_file.proofs.reader.NodeReader.next.Goals as goal

pub returns-in_err-node-clause-value : goal.returns-in_err-node-clause-value
returns-in_err-node-clause-value g c t reads =
    let out = err_from_is_err_and c.from_residual.result c.from_residual.ensures.1 in
    err_value c.args.self.now.trailer.n (reading_of c.args.self.now.nodes) (file (g.S.Shelf.world c.args.shelf.now) (file_of c.args.self.now)).bytes
    c.from_residual.result c.in_err-node.field-0.0 (out.1 ∙ ap Err out.2) c.args.self.now.width c.in_err-node.ensures.place.1 (c.in_err-node.ensures.value t reads.loaded)

pub returns-in_err-node-clause-damage : goal.returns-in_err-node-clause-damage
returns-in_err-node-clause-damage g c =
    let out = err_from_is_err_and c.from_residual.result c.from_residual.ensures.1 in
    err_place (reading_of c.args.self.now.nodes) c.args.self.now.given c.from_residual.result c.in_err-node.field-0.0 (out.1 ∙ ap Err out.2) c.args.self.now.width c.in_err-node.ensures.place.1

pub returns-in-Some-damaged_place-clause-damage : goal.returns-in-Some-damaged_place-clause-damage
returns-in-Some-damaged_place-clause-damage g c =
    let r = reading_of c.args.self.now.nodes in
    let goes : GoesBack IsNode r (reading_of c.next.new.self) (Ok (Some c.in-Some.node)) =
    subst (λ o. GoesBack IsNode r (reading_of c.next.new.self) (Ok o)) c.in-Some.is c.in_ok-node.ensures.place in
    let back : place_of r ≡ c.place-left.result + 1 = goes.2 ∙ ap (λ k. k + 1) (sym c.place-left.ensures) in (
      c.file.ensures ∙ c.in_ok-node.ensures.same.file_is,
      place_next c.args.self.now.trailer.n (place_of r) c.place-left.result c.in-Some-damaged_place.place c.in-Some.node c.args.self.now.given back c.in-Some-damaged_place.ensures,
    )

pub returns-in-Some-damaged_place-clause-value : goal.returns-in-Some-damaged_place-clause-value
returns-in-Some-damaged_place-clause-value g c t reads =
    let r = reading_of c.args.self.now.nodes in
    let bytes : List ℕ = (file (g.S.Shelf.world c.args.shelf.now) (file_of c.args.self.now)).bytes in
    let goes : GoesBack IsNode r (reading_of c.next.new.self) (Ok (Some c.in-Some.node)) =
    subst (λ o. GoesBack IsNode r (reading_of c.next.new.self) (Ok o)) c.in-Some.is c.in_ok-node.ensures.place in
    let is : IsRecordOf node_words r.words (place_of r - 1) bytes c.in-Some.node =
    subst (λ o. IsAnswer IsNode node_words r.words (place_of r - 1) bytes (Ok o)) c.in-Some.is (c.in_ok-node.ensures.value t reads.loaded) in
    let back : place_of r ≡ c.place-left.result + 1 = goes.2 ∙ ap (λ k. k + 1) (sym c.place-left.ensures) in
    place_value c.args.self.now.trailer.n r.words (place_of r) c.place-left.result c.in-Some-damaged_place.place bytes c.in-Some.node c.args.self.now.given
    c.args.self.now.width back is reads.last c.in-Some-damaged_place.ensures

pub returns-in-Some-damaged_place-clause-items : goal.returns-in-Some-damaged_place-clause-items
returns-in-Some-damaged_place-clause-items g c t reads xs left =
    let bytes : List ℕ = (file (g.S.Shelf.world c.args.shelf.now) (file_of c.args.self.now)).bytes in
    let gives : GivesLast (AreBehind IsNode node_words (reading_of c.next.new.self) bytes) xs (Ok (Some c.in-Some.node)) =
    subst (λ o. GivesLast (AreBehind IsNode node_words (reading_of c.next.new.self) bytes) xs (Ok o)) c.in-Some.is (c.in_ok-node.ensures.items t reads.loaded xs left.behind) in
    fine_node c.args.self.now.trailer.n c.place-left.result c.in-Some-damaged_place.place xs gives.0 c.in-Some.node c.args.self.now.given
    gives.1 left.proper left.above c.in-Some-damaged_place.ensures

pub returns-clause-place : goal.returns-clause-place
returns-clause-place g c =
    let r = reading_of c.args.self.now.nodes in
    let goes : GoesBack IsNode r (reading_of c.next.new.self) (Ok (Some c.in-Some.node)) =
    subst (λ o. GoesBack IsNode r (reading_of c.next.new.self) (Ok o)) c.in-Some.is c.in_ok-node.ensures.place in
    (from_sound c.args.self.now.trailer.n c.in-Some.node goes.0 c.in_default-damaged_place.ensures.0, goes.2, c.in_default-damaged_place.ensures.1, ap Some (c.word.ensures.value ∙ c.ptr.ensures.value))

pub returns-clause-reads : goal.returns-clause-reads
returns-clause-reads g c t reads =
    let r = reading_of c.args.self.now.nodes in
    let bytes : List ℕ = (file (g.S.Shelf.world c.args.shelf.now) (file_of c.args.self.now)).bytes in
    let goes : GoesBack IsNode r (reading_of c.next.new.self) (Ok (Some c.in-Some.node)) =
    subst (λ o. GoesBack IsNode r (reading_of c.next.new.self) (Ok o)) c.in-Some.is c.in_ok-node.ensures.place in
    let is : IsRecordOf node_words r.words (place_of r - 1) bytes c.in-Some.node =
    subst (λ o. IsAnswer IsNode node_words r.words (place_of r - 1) bytes (Ok o)) c.in-Some.is (c.in_ok-node.ensures.value t reads.loaded) in
    let back : place_of r ≡ place_of (reading_of c.next.new.self) + 1 = goes.2 in
    let here : place_of r - 1 ≡ place_of (reading_of c.next.new.self) = omega (arith, back) in
    let word : c.word.result ≡ c.in-Some.node.uid = c.word.ensures.value ∙ c.ptr.ensures.value in
    record {
      loaded = c.in_ok-node.ensures.reads t reads.loaded;
      last = identifier_is r.words (place_of (reading_of c.next.new.self)) bytes c.in-Some.node c.args.self.now.width
          (subst (λ p. IsRecordOf node_words r.words p bytes c.in-Some.node) here is) ∙ sym word;
    }

pub returns-clause-value : goal.returns-clause-value
returns-clause-value g c t reads =
    let r = reading_of c.args.self.now.nodes in
    let bytes : List ℕ = (file (g.S.Shelf.world c.args.shelf.now) (file_of c.args.self.now)).bytes in
    let goes : GoesBack IsNode r (reading_of c.next.new.self) (Ok (Some c.in-Some.node)) =
    subst (λ o. GoesBack IsNode r (reading_of c.next.new.self) (Ok o)) c.in-Some.is c.in_ok-node.ensures.place in
    let is : IsRecordOf node_words r.words (place_of r - 1) bytes c.in-Some.node =
    subst (λ o. IsAnswer IsNode node_words r.words (place_of r - 1) bytes (Ok o)) c.in-Some.is (c.in_ok-node.ensures.value t reads.loaded) in
    node_at c.args.self.now.trailer.n r.words (place_of r - 1) bytes c.in-Some.node c.args.self.now.width goes.0 is c.in_default-damaged_place.ensures.0

pub returns-clause-items : goal.returns-clause-items
returns-clause-items g c t reads xs left =
    let bytes : List ℕ = (file (g.S.Shelf.world c.args.shelf.now) (file_of c.args.self.now)).bytes in
    let gives : GivesLast (AreBehind IsNode node_words (reading_of c.next.new.self) bytes) xs (Ok (Some c.in-Some.node)) =
    subst (λ o. GivesLast (AreBehind IsNode node_words (reading_of c.next.new.self) bytes) xs (Ok o)) c.in-Some.is (c.in_ok-node.ensures.items t reads.loaded xs left.behind) in
    let down : IsDescending (gives.0 ++ c.in-Some.node ∷ []) = subst IsDescending gives.1 left.descend in
    let word : c.word.result ≡ c.in-Some.node.uid = c.word.ensures.value ∙ c.ptr.ensures.value in (
      gives.0,
      gives.1,
      record {
        behind = gives.2;
        proper = λ x has. left.proper x (subst (Has x) (sym gives.1) (has_front x c.in-Some.node gives.0 has));
        descend = descend_front c.in-Some.node gives.0 down;
        above = λ x has. let higher = above_last c.in-Some.node gives.0 down x has in omega (arith, word, higher);
      },
    )

pub returns-clause-waits : goal.returns-clause-waits
returns-clause-waits g c =
    let r = reading_of c.args.self.now.nodes in
    (c.in_ok-node.ensures.room, subst (λ o. TakesBehind (room_of c.args.self.now.nodes) r (reading_of c.next.new.self) (Ok o)) c.in-Some.is c.in_ok-node.ensures.waits)
