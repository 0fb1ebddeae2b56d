use Rattle.std.proofs.Common.{◌≡◌, length}
use Rattle.depth_first.proofs.components.component_numbers.Given as goal

-- each node keeps its place
abbrev pub invariant-loop-root : goal.invariant-loop-root
invariant-loop-root l = length l.state.number.items ≡ length l.edges
