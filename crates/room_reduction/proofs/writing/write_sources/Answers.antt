use Rattle.std.proofs.Common.{◌≡◌, ◌∙◌, ◌+◌, ◌++◌, sym, ap, arith}
use Rattle.shelf_model.specs.File.{firm_file}
use Rattle.shelf_model.specs.World.{file}
use Rattle.canon_file.specs.Canon.{trailer_bytes}
use Rattle.arc_diagrams.specs.Reduction.{final_pointer}
use Rattle.block_stream.specs.Writes.{count_of}
use Rattle.node_file.specs.Nodes.{held_nodes}
use Rattle.node_file.specs.Writers.{filling_of}
use Rattle.node_file.proofs.FileChanges.{cut_and_wrote}
use Rattle.room_reduction.specs.Levels.{nodes_down_to}
use Rattle.room_reduction.proofs.LevelSources.{final_keeps_ends}
use Rattle.room_reduction.proofs.RoomFile.{nodes_many, bytes_canonical}
use Rattle.room_reduction.proofs.writing.write_sources.Goals as goal

-- the file was cut, and then written to
pub returns-in_err-finish-clause-content : goal.returns-in_err-finish-clause-content
returns-in_err-finish-clause-content g c =
    let many = c.args.index.total in
    let begun = c.in_ok-writer.ensures.file in
    cut_and_wrote g.S.Shelf.tells g.S.Shelf.world c.args.out many 3 (many + 6) _ _ _ _ _ _ (omega arith) begun
    (c.in_ok-made.ensures.same.file_is ∙ begun) c.start.ensures.content c.write_levels.ensures.content
    c.finish.ensures.content

pub returns-clause-content : goal.returns-clause-content
returns-clause-content g c =
    let many = c.args.index.total in
    let begun = c.in_ok-writer.ensures.file in
    cut_and_wrote g.S.Shelf.tells g.S.Shelf.world c.args.out many 3 (many + 6) _ _ _ _ _ _ (omega arith) begun
    (c.in_ok-made.ensures.same.file_is ∙ begun) c.start.ensures.content c.write_levels.ensures.content
    c.finish.ensures.content

-- the file has the nodes of all levels, and the trailer stands behind them
pub returns-clause-made : goal.returns-clause-made
returns-clause-made g c tells arcs t few stands are =
    let n = c.args.n in
    let root = c.args.root in
    let variables = c.requires.variables in
    let mid = c.finish.ensures.content.before tells in
    let begun = c.in_ok-writer.ensures in
    let made = c.in_ok-made.ensures in
    let empty = begun.holds (c.write_levels.ensures.content.before mid) in
    let done = (rw c.in-Some.is at made.done) root arcs stands.complete are in
    let put = (rw c.in-Some.is at made.bytes) mid root arcs stands.complete are in
    let nodes = held_nodes (nodes_down_to 0 n arcs) in
    let front = put.bytes_are ∙ ap (λ bytes. bytes ++ nodes) empty.bytes_are in
    let begins = begun.count in
    let more = rw c.in-Some.is at made.count in
    let count : count_of (filling_of c.write_levels.new.writer) ≡ c.in-Some.count = omega (arith, begins, more) in
    let of_variables = made.variables ∙ begun.variables in
    let ends = final_keeps_ends n root arcs variables stands.complete in
    let word = c.in-Some-from_word.ensures.1 ∙ c.in-Some-became.ensures (final_pointer n arcs) ends done.done.known
    ∙ ap (final_pointer n arcs) c.word.ensures.value in (
      ap (file (g.S.Shelf.world c.finish.new.shelf)) (sym (made.same.file_is ∙ begun.file)) ∙ c.in_ok-finish.ensures.firm tells
          ∙ (λ j. firm_file (front j ++ trailer_bytes c.in-Some-from_word.end (count j) (of_variables j)))
          ∙ ap firm_file (bytes_canonical n root arcs t variables few stands _ _ word done.count_is),
      done.count_is ∙ nodes_many n root arcs t variables few stands,
    )
