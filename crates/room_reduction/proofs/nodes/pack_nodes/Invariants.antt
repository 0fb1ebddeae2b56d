use Rattle.std.proofs.Common.{◌≡◌, ◌+◌, ◌++◌, List, take}
use Rattle.rec_words.specs.declared.node.Node.{Node}
use Rattle.node_file.specs.Nodes.{node_records}
use Rattle.packed_records.specs.Packed.{packed}
use Rattle.room_reduction.proofs.nodes.pack_nodes.Given as goal

-- the nodes so far stand behind those that stood there
abbrev pub invariant-loop-place : goal.invariant-loop-place
invariant-loop-place l = record {
  behind : (xs : List Node) → l.records ≡ node_records xs
      → take (l.count + l.place) (packed l.nodes) ≡ take l.count (packed l.fn.nodes) ++ take l.place l.records;
}
