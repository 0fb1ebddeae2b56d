use Rattle.std.proofs.Common.{◌+◌, ◌-◌, ◌≤◌}
use Rattle.script_runner.specs.AtOnce.{most_spare}
use Rattle.script_runner.specs.JobOf.{job_in}
use Rattle.script_runner.proofs.Gathered.{GathersTo}
use Rattle.script_runner.proofs.at_once.gather.Given as goal

-- the steps so far were made at once and wait
abbrev pub invariant-loop-end : goal.invariant-loop-end
invariant-loop-end g l = record {
  so_far : GathersTo g.S.Shelf.tells g.S.Shelf.world g.S.Shelf.faults (job_in l.fn.job) l.from l.until l.end l.turns l.fn.spare l.spare l.last l.fn.shelf l.shelf;
  within : (l.from ≤ l.end) × (l.end ≤ l.until);
  near : l.end ≤ l.from + 1024;
  few : l.turns + l.from ≤ 65536 + l.end;
  spare : l.spare ≤ most_spare;
}

abbrev pub decreases-loop-end : goal.decreases-loop-end
decreases-loop-end g l = l.until - l.end
