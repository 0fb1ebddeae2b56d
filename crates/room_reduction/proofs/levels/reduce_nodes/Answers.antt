use Rattle.std.proofs.Common.{◌≡◌, ◌∙◌, ◌++◌, length, take, sym, ap, arith}
use Rattle.std.proofs.lemmas.List.{length-take-le}
use Rattle.canon_file.specs.Canon.{trailer_bytes}
use Rattle.node_file.specs.Nodes.{held_nodes}
use Rattle.arc_diagrams.specs.Reduction.{final_pointer}
use Rattle.arc_diagrams.proofs.ReduceLaws.{reduces}
use Rattle.packed_records.specs.Packed.{packed}
use Rattle.packed_records.proofs.PackedLaws.{length-packed}
use Rattle.room_reduction.proofs.LevelSources.{final_keeps_ends}
use Rattle.room_reduction.proofs.RoomFile.{nodes_many, bytes_canonical}
use Rattle.room_reduction.proofs.levels.reduce_nodes.Goals as goal

-- the nodes are those of all levels
pub returns-clause-made : goal.returns-clause-made
returns-clause-made c arcs t few stands are =
    let n = c.args.n in
    let root = c.args.root in
    let count = c.in_ok-count.count in
    let variables = c.requires.variables in
    let nodes = packed c.reduce_levels.new.nodes in
    let room = c.in_ok-count.ensures.room in
    let many = length-packed c.reduce_levels.new.nodes in
    let long : length (take count nodes) ≡ count = length-take-le count nodes (omega (arith, room, many)) in
    let done = c.in_ok-count.ensures.done root arcs stands.complete are in
    let count_is = sym long ∙ ap length done.nodes_are in
    let ends = final_keeps_ends n root arcs variables stands.complete in
    let word = c.in_ok-root.ensures.1 ∙ c.in_ok-word.ensures (final_pointer n arcs) ends done.done.known in
    record {
      form = (reduces n root arcs t variables few stands).form;
      bytes_are = ap (λ xs. held_nodes xs ++ trailer_bytes c.in_ok-root.root count n) done.nodes_are
          ∙ bytes_canonical n root arcs t variables few stands _ _ word count_is;
      count_is = count_is ∙ nodes_many n root arcs t variables few stands;
    }
