use Rattle.std.proofs.Common.{◌≡◌, length}
use Rattle.depth_first.proofs.components.close.Given as goal

-- each node keeps its place
abbrev pub invariant-open : goal.invariant-open
invariant-open l = length l.state.number.items ≡ length l.initial.state.number.items

abbrev pub decreases-open : goal.decreases-open
decreases-open l = length l.state.open.items
