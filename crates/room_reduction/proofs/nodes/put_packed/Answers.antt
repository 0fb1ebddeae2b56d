use Rattle.std.proofs.Common.{◌∙◌, ◌+◌, ◌++◌, ◌*◌, ◌<◌, length, ap, arith}
use Rattle.shelf_model.proofs.Runs.{told}
use Rattle.block_stream.proofs.WriteRuns.{wrote_on}
use Rattle.node_file.specs.Nodes.{held_node}
use Rattle.room_reduction.proofs.FewerCalls.{wrote_within}
use Rattle.room_reduction.proofs.PackedNodes.{one_written}
use Rattle.room_reduction.proofs.nodes.put_packed.Goals as goal

pub returns-in_err-put_held-clause-content : goal.returns-in_err-put_held-clause-content
returns-in_err-put_held-clause-content g c =
    let place = c.loop-place.place in
    let known = c.loop-place.invariant in
    let below = c.loop-place-test.true in
    told g.S.Shelf.tells _ _ _ _
    (wrote_on g.S.Shelf.tells g.S.Shelf.world place 1 _ _ _ _ _ known.same.file_is known.wrote
    c.put_held.ensures.content)
    (λ _ did. wrote_within (place + 1) c.args.count _ _ _ (omega (arith, below)) did)

pub loop-place-preserved : goal.loop-place-preserved
loop-place-preserved g c =
    let nodes = c.args.nodes.now in
    let place = c.loop-place.place in
    let known = c.loop-place.invariant in
    let put = c.in_ok-put_held.ensures in
    let item = c.record_of.result in
    let within = c.requires.within in
    let below = c.loop-place-test.true in
    let room : place < 4 * length nodes = omega (arith, within, below) in
    let later = known.folder_later in
    let last = put.faults.later in
    let counted = known.counted in
    let one_more = put.count in
    record {
      same = record {
        file_is = put.same.file_is ∙ known.same.file_is;
        words_are = put.same.words_are ∙ known.same.words_are;
      };
      variables = put.variables ∙ known.variables;
      counted = omega (arith, counted, one_more);
      bytes = λ tells.
          let was = known.bytes (put.content.before tells) in
          let is = put.holds tells in
          record {
            in_step = is.in_step;
            bytes_are = is.bytes_are ∙ ap (λ bytes. bytes ++ held_node item) was.bytes_are
                ∙ one_written nodes place item _ room c.record_of.ensures;
          };
      wrote = wrote_on g.S.Shelf.tells g.S.Shelf.world place 1 _ _ _ _ _ known.same.file_is known.wrote put.content;
      folder_later = omega (arith, later, last);
      say_is = put.faults.say_is ∙ known.say_is;
      text_is = λ path. put.faults.text_is path ∙ known.text_is path;
    }
