use Rattle.std.proofs.Common.{take}
use Rattle.depth_first.specs.Walk.{WalkOver}
use Rattle.depth_first.specs.Views.{graph_of}
use Rattle.depth_first.proofs.walk.visit_roots.Given as goal

-- the roots so far were visited
abbrev pub invariant-loop-root : goal.invariant-loop-root
invariant-loop-root l = WalkOver (graph_of l.edges) (take l.root-index l.roots) l.walk.states.items l.walk.order.items l.walk.stack.items
