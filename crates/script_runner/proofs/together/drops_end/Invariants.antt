use Rattle.std.proofs.Common.{◌+◌, ◌-◌, ◌<◌, ◌≤◌}
use Rattle.script_runner.specs.Together.{AreDrops}
use Rattle.script_runner.proofs.together.drops_end.Given as goal

-- the steps so far are drops
abbrev pub invariant-loop-end : goal.invariant-loop-end
invariant-loop-end l = record {
  within : (l.number < l.end) × (l.end ≤ l.until);
  few : l.end ≤ l.number + 1024;
  drops : AreDrops l.steps (l.number + 1) l.end;
}

abbrev pub decreases-loop-end : goal.decreases-loop-end
decreases-loop-end l = l.until - l.end
