use Rattle.std.proofs.Common.{take}
use Rattle.depth_first.specs.Search.{Spreads}
use Rattle.depth_first.proofs.search.reach_all.Given as goal

-- the nodes so far are reached
abbrev pub invariant-loop-target : goal.invariant-loop-target
invariant-loop-target l = Spreads (take l.target-index l.targets) l.fn.reached.items l.fn.later.items l.reached.items l.later.items
