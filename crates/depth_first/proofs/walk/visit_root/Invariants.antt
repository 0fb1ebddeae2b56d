use Rattle.std.proofs.Common.{◌≡◌, length}
use Rattle.depth_first.specs.Graph.{visit}
use Rattle.depth_first.specs.Walk.{IsWalk, resumed, work}
use Rattle.depth_first.specs.Views.{graph_of}
use Rattle.depth_first.proofs.walk.visit_root.Given as goal

-- the walk is one, and what it leads to is what the visit leaves
abbrev pub invariant-way : goal.invariant-way
invariant-way l = record {
  walk : IsWalk (graph_of l.edges) l.walk.states.items l.walk.order.items l.walk.stack.items;
  same : resumed (length (graph_of l.edges)) (graph_of l.edges) l.walk.stack.items l.walk.order.items ≡ visit (length (graph_of l.edges)) (graph_of l.edges) l.fn.walk.order.items l.root;
}

abbrev pub decreases-way : goal.decreases-way
decreases-way l = work (graph_of l.edges) l.walk.states.items l.walk.stack.items
