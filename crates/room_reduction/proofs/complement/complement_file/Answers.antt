use Rattle.std.proofs.Common.{◌∙◌, ◌+◌, ◌*◌, ◌++◌, ◌≤◌, ◌<◌, length, take, ap, sym, subst, arith}
use Rattle.shelf_model.specs.File.{firm_file}
use Rattle.shelf_model.proofs.Runs.{told_then}
use Rattle.node_file.specs.Nodes.{held_nodes}
use Rattle.canon_file.specs.Canon.{canon_nodes, trailer_bytes}
use Rattle.arc_diagrams.specs.Arcs.{arcs_of}
use Rattle.arc_diagrams.specs.Laws.{IsDiagramOf}
use Rattle.packed_records.specs.Packed.{packed}
use Rattle.packed_records.proofs.PackedLaws.{length-packed}
use Rattle.room_reduction.specs.Reading.{HoldNodes}
use Rattle.room_reduction.specs.Sources.{AreSources, sources_in}
use Rattle.room_reduction.specs.Complements.{complement, other_end, other_arcs}
use Rattle.node_file.proofs.FileChanges.{looked_changes, changed_after}
use Rattle.node_file.proofs.HeldNodes.{canon_read}
use Rattle.room_reduction.proofs.ComplementSources.{few_others, complement_diagram, complement_sources}
use Rattle.room_reduction.proofs.complement.complement_file.Goals as goal

-- the nodes are read, and then one file is made
pub returns-in_err-write_packed-clause-content : goal.returns-in_err-write_packed-clause-content
returns-in_err-write_packed-clause-content g c =
    let count = c.args.trailer.count in
    told_then g.S.Shelf.tells _ _ _ _ _ _ c.read_nodes.ensures.content c.write_packed.ensures.content
    (λ _ looked changed. changed_after count (count + 4) (2 * count + 4) c.args.to _ _ _ (omega arith)
    (looked_changes count count c.args.to _ _ (omega arith) looked) changed)

pub returns-clause-content : goal.returns-clause-content
returns-clause-content g c =
    let count = c.args.trailer.count in
    told_then g.S.Shelf.tells _ _ _ _ _ _ c.read_nodes.ensures.content c.write_packed.ensures.content
    (λ _ looked changed. changed_after count (count + 4) (2 * count + 4) c.args.to _ _ _ (omega arith)
    (looked_changes count count c.args.to _ _ (omega arith) looked) changed)

-- the file has the nodes of the complement
pub returns-clause-made : goal.returns-clause-made
returns-clause-made g c made tells t is root count =
    let n = c.args.trailer.n in
    let many = c.args.trailer.count in
    let arcs = other_arcs (arcs_of (canon_nodes n t)) in
    let nodes = packed c.read_nodes.new.nodes in
    let others = packed c.exchange_nodes.new.sources in
    let mid = c.write_packed.ensures.content.before tells in
    let held = subst (λ rs. HoldNodes many rs nodes) (canon_read n t c.args.from _ many is count)
    (c.in_ok-read_nodes.ensures.read c.if-not-branch.false mid) in
    let are = c.exchange_nodes.ensures c.if-not-exchange_nodes.false in
    let part = c.split_at_mut-sources.ensures.front_len in
    let long = c.exchange_nodes.auto.sources in
    let within : many ≤ length others = omega (arith, part, long, length-packed c.exchange_nodes.new.sources) in
    let few : length (canon_nodes n t) < 65536 = let below = c.requires.few in omega (arith, below, count) in
    let root_is = c.exchanged-root.ensures ∙ ap other_end (c.word.ensures.value ∙ root) in
    let reduced = c.in-Some.ensures.made arcs (complement t) (few_others (canon_nodes n t) few)
    (subst (λ w. IsDiagramOf n w arcs (complement t)) (sym root_is)
    (complement_diagram n t is.form many nodes others count held are within))
    (subst (λ w. AreSources n w arcs (sources_in many c.exchange_nodes.new.sources)) (sym root_is)
    (complement_sources n t is.form many nodes others count held are within)) in
    let same = c.if-reduced-count.false in
    let root_word = c.in-Some.reduced.root in
    record {
      form = reduced.form;
      file_is = c.in_ok-write_packed.ensures.made tells
          ∙ ap firm_file ((λ j. held_nodes (take (sym same j) (packed c.reduce_nodes.new.nodes))
          ++ trailer_bytes root_word (sym same j) n) ∙ reduced.bytes_are);
      nodes_are = sym same ∙ reduced.count_is;
    }
