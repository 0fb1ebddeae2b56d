use Rattle.std.proofs.Common.{◌≡◌, ◌∙◌, ◌+◌, ◌<◌, ◌≤◌, length, take, refl, ap, subst, arith}
use Rattle.std.proofs.lemmas.List.{length-take-le}
use Rattle.shelf_model.specs.World.{file}
use Rattle.node_file.specs.Nodes.{records_in}
use Rattle.packed_records.specs.Packed.{packed}
use Rattle.room_reduction.proofs.FirstRecords.{piece_looked, bytes_looked}
use Rattle.room_reduction.specs.Records.{word}
use Rattle.room_reduction.specs.Reading.{HoldNodes}
use Rattle.room_reduction.proofs.ReadPieces.{piece_is}
use Rattle.room_reduction.proofs.reading.read_nodes.Goals as goal

pub pieces-preserved : goal.pieces-preserved
pieces-preserved g c =
    let world = g.S.Shelf.world in
    let f = c.args.f in
    let old = world c.args.shelf.now in
    let mid = world c.pieces.shelf in
    let count = c.args.count in
    let done = c.pieces.done in
    let wanted = c.min-wanted.result in
    let window = c.load_nodes.new.window in
    let known = c.pieces.invariant in
    let did = c.in_ok-read.ensures in
    let piece = c.if-not-pack_piece.ensures in
    let wanted_is = c.min-wanted.ensures in
    let more : done < count = c.pieces-test.true in
    let within : done + wanted ≤ count = omega (arith, wanted_is, more) in
    let room = c.requires.window in
    let window_long = c.load_nodes.auto.window ∙ c.pieces.auto.window in
    let piece_long : length (take wanted window) ≡ wanted =
    length-take-le wanted window (omega (arith, wanted_is, window_long, room)) in
    let these = records_in count (file old f).bytes in
    record {
      within = within;
      read = λ tells.
          let before = did.content.before tells in
          let same = bytes_looked done f old mid (known.looked.did before) in
          subst (λ m. HoldNodes (done + m) these (packed c.pack_piece.new.nodes)) piece_long
          (piece.held refl these (known.read before) (λ k i below few. ap (word i)
          (piece_is done wanted count c.in_ok-read.read window (file mid f).bytes (file old f).bytes same did.within
          c.if-read-wanted.false within (did.loaded tells) k (omega (arith, below, piece_long)))));
      looked =
          piece_looked g.S.Shelf.tells world done wanted c.args.shelf.now c.pieces.shelf c.load_nodes.new.shelf
          (omega (arith, more, wanted_is)) known.looked did.content;
      folder_later = omega (arith, known.folder_later, did.faults.later);
      say_is = did.faults.say_is ∙ known.say_is;
      text_is = λ path. did.faults.text_is path ∙ known.text_is path;
    }
