use Rattle.std.proofs.Common.{◌<◌, ℕ}
use Rattle.depth_first.specs.Graph.{Reaches}
use Rattle.depth_first.specs.Views.{graph_of}
use Rattle.depth_first.proofs.orders.first_of.Given as goal

-- no node so far leads to itself
abbrev pub invariant-loop-node : goal.invariant-loop-node
invariant-loop-node l = (t : ℕ) → t < l.node → Reaches (graph_of l.edges) t t → ⊥
