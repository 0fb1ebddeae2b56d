use Rattle.std.proofs.Common.{◌≡◌, length}
use Rattle.depth_first.proofs.components.enter_root.Given as goal

-- each node keeps its place
abbrev pub invariant-loop-turn : goal.invariant-loop-turn
invariant-loop-turn l = length l.state.number.items ≡ length l.initial.state.number.items
