use Rattle.std.proofs.Common.{◌≡◌, length, take, replicate}
use Rattle.depth_first.specs.declared.state.State.TheVariants.{New}
use Rattle.depth_first.proofs.walker.give_up.Given as goal

-- the nodes so far are new
abbrev pub invariant-loop-node : goal.invariant-loop-node
invariant-loop-node l = record {
  size : length l.walk.states.items ≡ length l.fn.walk.states.items;
  states : take l.node l.walk.states.items ≡ replicate l.node New;
}
