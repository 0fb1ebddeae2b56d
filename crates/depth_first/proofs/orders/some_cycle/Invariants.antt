use Rattle.std.proofs.Common.{◌≡◌, ◌<◌, ℕ, [], true}
use Rattle.depth_first.specs.Graph.{has}
use Rattle.depth_first.specs.Walk.{IsWalk}
use Rattle.depth_first.specs.Views.{graph_of}
use Rattle.depth_first.proofs.orders.some_cycle.Given as goal

-- the nodes so far were visited
abbrev pub invariant-loop-root : goal.invariant-loop-root
invariant-loop-root l = record {
  walk : IsWalk (graph_of l.edges) l.walk.states.items l.walk.order.items l.walk.stack.items;
  empty : l.walk.stack.items ≡ [];
  seen : (s : ℕ) → s < l.root → has l.walk.order.items s ≡ true;
}
