use Rattle.std.proofs.Common.{◌<◌, ◌≤◌, ℕ, get_or, length}
use Rattle.depth_first.specs.Graph.{edges_of}
use Rattle.depth_first.specs.Views.{graph_of}
use Rattle.depth_first.proofs.orders.never_rises.Given as goal

-- no edge so far leads to a larger number
abbrev pub invariant-loop-node : goal.invariant-loop-node
invariant-loop-node l = (s i : ℕ) → s < l.node → i < length (edges_of (graph_of l.edges) s) → get_or l.numbers (get_or (edges_of (graph_of l.edges) s) i 0) 0 ≤ get_or l.numbers s 0
