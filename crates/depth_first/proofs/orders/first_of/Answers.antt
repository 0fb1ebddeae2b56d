use Rattle.std.proofs.Common.{◌≡◌, ◌<◌, List, ℕ, length, subst, ⊎_elim, arith}
use Rattle.depth_first.specs.Graph.{Reaches, NeverRises, FallsAt}
use Rattle.depth_first.specs.Views.{graph_of}
use Rattle.depth_first.proofs.Keeps.{before_or_last}
use Rattle.depth_first.proofs.Steps.{length_graph}
use Rattle.depth_first.proofs.Descents.{falls_away}
use Rattle.depth_first.proofs.orders.first_of.Goals as goal

pub loop-node-preserved-then-falls_at : goal.loop-node-preserved-then-falls_at
loop-node-preserved-then-falls_at c = λ t lt way.
    let g : List (List ℕ) = graph_of c.args.edges.now in
    let n : length g ≡ length c.args.edges.now = length_graph c.args.edges.now in
    let numbers : List ℕ = c.in_ok-numbers.numbers.items in
    let inside : c.loop-node.node < length g = omega (arith, c.requires.inside, c.loop-node-test.true) in
    let never : NeverRises g numbers = subst (NeverRises g) c.as_slice.ensures.value (c.never_rises-falls.ensures c.if-falls.true) in
    let falls : FallsAt g numbers c.loop-node.node = subst (λ ns. FallsAt g ns c.loop-node.node) c.as_slice-then-falls.ensures.value (c.falls_at.ensures c.if-falls_at.true) in
    ⊎_elim
    (λ (b : t < c.loop-node.node). c.loop-node.invariant t b way)
    (λ (e : t ≡ c.loop-node.node). falls_away g numbers c.requires.graph never c.loop-node.node inside falls (subst (λ s. Reaches g s s) e way))
    (before_or_last t c.loop-node.node lt)
