-- The file that is made when all levels are done.
use Rattle.std.specs.Prelude.{◌≡◌, ℕ, ◌-◌, ◌^◌, ◌≤◌, Bool, List, ◌++◌, length}
use Rattle.std.proofs.Common.{◌∙◌, sym, ap, arith}
use Rattle.std.proofs.lemmas.List.{length-map}
use Rattle.rec_words.specs.Records.{node_words}
use Rattle.block_stream.specs.Items.{item_record}
use Rattle.canon_file.specs.Canon.{canon_nodes, canon_root, canon_bytes, node_bytes, trailer_bytes}
use Rattle.canon_file.proofs.CanonLaws.{canon_bytes-is}
use Rattle.arc_file.specs.declared.arc.Arc.{Arc}
use Rattle.arc_diagrams.specs.Laws.{IsDiagramOf}
use Rattle.arc_diagrams.specs.Reduction.{final_pointer, final_nodes}
use Rattle.arc_diagrams.proofs.ReduceLaws.{reduces}
use Rattle.node_file.specs.Nodes.{node_records, held_nodes}
use Rattle.node_file.proofs.HeldNodes.{held_nodes-node_records}
use Rattle.room_reduction.specs.Levels.{nodes_down_to}

module _ (n root : ℕ) (arcs : List Arc) (t : List Bool) (variables : n ≤ 65535) (few : length arcs ≤ 2 ^ 47)
    (stands : IsDiagramOf n root arcs t) where
  -- the nodes are the canonical ones
  nodes_canonical : nodes_down_to 0 n arcs ≡ node_records (canon_nodes n t)
  nodes_canonical =
      let all : n - 0 ≡ n = omega arith in
      ap (λ h. node_records (final_nodes n arcs h 0)) all
      ∙ ap node_records (reduces n root arcs t variables few stands).nodes

  pub nodes_many : length (nodes_down_to 0 n arcs) ≡ length (canon_nodes n t)
  nodes_many = ap length nodes_canonical ∙ length-map (canon_nodes n t) (item_record node_words)

  -- so their bytes, with the trailer of the root's final pointer, are the canonical ones
  pub bytes_canonical : (word count : ℕ) → word ≡ final_pointer n arcs root → count ≡ length (nodes_down_to 0 n arcs)
      → held_nodes (nodes_down_to 0 n arcs) ++ trailer_bytes word count n ≡ canon_bytes n t
  bytes_canonical word count is many =
      let front : held_nodes (nodes_down_to 0 n arcs) ≡ node_bytes (canon_nodes n t) =
      ap held_nodes nodes_canonical ∙ held_nodes-node_records (canon_nodes n t) in
      let last : word ≡ canon_root n t = is ∙ (reduces n root arcs t variables few stands).begins in
      let all = many ∙ nodes_many in
      (λ j. front j ++ trailer_bytes (last j) (all j) n) ∙ sym (canon_bytes-is n t)
