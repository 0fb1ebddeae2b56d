use Rattle.std.proofs.Common.{◌≡◌, ◌∙◌, ◌+◌, ◌++◌, take, sym, ap, arith}
use Rattle.shelf_model.specs.File.{firm_file}
use Rattle.shelf_model.specs.World.{file}
use Rattle.canon_file.specs.Canon.{trailer_bytes}
use Rattle.block_stream.specs.Writes.{count_of}
use Rattle.node_file.specs.Nodes.{held_nodes}
use Rattle.node_file.specs.Writers.{filling_of}
use Rattle.node_file.proofs.FileChanges.{cut_and_wrote}
use Rattle.packed_records.specs.Packed.{packed}
use Rattle.room_reduction.proofs.nodes.write_packed.Goals as goal

-- the file was cut, and then written to
pub returns-in_err-finish-clause-content : goal.returns-in_err-finish-clause-content
returns-in_err-finish-clause-content g c =
    let many = c.args.count in
    let begun = c.in_ok-writer.ensures.file in
    cut_and_wrote g.S.Shelf.tells g.S.Shelf.world c.args.f many 3 (many + 4) _ _ _ _ _ _ (omega arith) begun
    (c.in_ok-put_packed.ensures.same.file_is ∙ begun) c.start.ensures.content c.put_packed.ensures.content
    c.finish.ensures.content

pub returns-clause-content : goal.returns-clause-content
returns-clause-content g c =
    let many = c.args.count in
    let begun = c.in_ok-writer.ensures.file in
    cut_and_wrote g.S.Shelf.tells g.S.Shelf.world c.args.f many 3 (many + 4) _ _ _ _ _ _ (omega arith) begun
    (c.in_ok-put_packed.ensures.same.file_is ∙ begun) c.start.ensures.content c.put_packed.ensures.content
    c.finish.ensures.content

-- the trailer stands behind the nodes
pub returns-clause-made : goal.returns-clause-made
returns-clause-made g c tells =
    let begun = c.in_ok-writer.ensures in
    let put = c.in_ok-put_packed.ensures in
    let mid = c.finish.ensures.content.before tells in
    let empty = begun.holds (c.put_packed.ensures.content.before mid) in
    let nodes = held_nodes (take c.args.count (packed c.args.nodes.now)) in
    let front = (put.holds mid).bytes_are ∙ ap (λ bytes. bytes ++ nodes) empty.bytes_are in
    let begins = begun.count in
    let more = put.count in
    let count : count_of (filling_of c.put_packed.new.writer) ≡ c.args.count = omega (arith, begins, more) in
    let variables = put.variables ∙ begun.variables in
    ap (file (g.S.Shelf.world c.finish.new.shelf)) (sym (put.same.file_is ∙ begun.file)) ∙ c.in_ok-finish.ensures.firm tells
    ∙ (λ j. firm_file (front j ++ trailer_bytes c.args.root (count j) (variables j)))
