use Rattle.std.proofs.Common.{◌≡◌, ◌++◌, ◌+◌, ◌≤◌, length, drop}
use Rattle.std.specs.List.{flat_map}
use Rattle.net_plan.specs.Plan.{drop_one}
use Rattle.net_plan.proofs.plan.push_drops.Given as goal

-- the drops so far and those that are left are all
abbrev pub invariant-loop-signal : goal.invariant-loop-signal
invariant-loop-signal l = record {
  same : l.steps.items ++ flat_map (drop_one l.wanted l.made) (drop l.signal-index l.visited) ≡ l.fn.steps.items ++ flat_map (drop_one l.wanted l.made) l.visited;
  few : l.first + length l.steps.items ≤ 1048576;
}
