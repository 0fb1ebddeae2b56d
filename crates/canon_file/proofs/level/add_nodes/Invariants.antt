use Rattle.std.proofs.Common.{◌≡◌, ◌++◌, drop}
use Rattle.canon_file.specs.Canon.{numbered, node_bytes}
use Rattle.canon_file.proofs.level.add_nodes.Given as goal

-- the nodes of the rows that are left lead to those of all
abbrev pub invariant-loop-k : goal.invariant-loop-k
invariant-loop-k l =
    l.bytes.items ++ node_bytes (numbered l.level l.k (drop l.k l.rows)) ≡ l.initial.bytes.items ++ node_bytes (numbered l.level 0 l.rows)
