use Rattle.std.proofs.Common.{◌≡◌, ◌<◌, List, ℕ, length, arith}
use Rattle.depth_first.specs.Walk.{Visited}
use Rattle.depth_first.specs.Views.{graph_of}
use Rattle.depth_first.proofs.Steps.{length_graph}
use Rattle.depth_first.proofs.Descents.{sees_more, all_acyclic}
use Rattle.depth_first.proofs.orders.some_cycle.Goals as goal

pub loop-root-preserved : goal.loop-root-preserved
loop-root-preserved c =
    let g : List (List ℕ) = graph_of c.args.edges.now in
    let v : Visited g c.loop-root.walk.order.items c.loop-root.root c.visit_root.new.walk.states.items c.visit_root.new.walk.order.items c.visit_root.new.walk.stack.items = rw c.in_default.is at c.in_ok-found.ensures.walked in
    let n : length g ≡ length c.args.edges.now = length_graph c.args.edges.now in
    let inside : c.loop-root.root < length g = omega arith in
    record { walk = v.walk; empty = v.empty; seen = sees_more g c.loop-root.walk.order.items c.visit_root.new.walk.order.items c.loop-root.root inside v.order c.loop-root.invariant.seen }

pub returns : goal.returns
returns c =
    let g : List (List ℕ) = graph_of c.args.edges.now in
    let n : length g ≡ length c.args.edges.now = length_graph c.args.edges.now in
    all_acyclic g c.loop-root.walk.order.items c.loop-root.invariant.walk.above (λ s lt. c.loop-root.invariant.seen s (omega arith))
