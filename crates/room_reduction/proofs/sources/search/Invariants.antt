use Rattle.std.proofs.Common.{◌-◌, ◌≤◌}
use Rattle.room_reduction.proofs.sources.search.Given as goal

-- what is sought lies between the two places
abbrev pub invariant-halves : goal.invariant-halves
invariant-halves l = record { order : l.from ≤ l.to; within : l.to ≤ l.count }

-- which come closer
abbrev pub decreases-halves : goal.decreases-halves
decreases-halves l = l.to - l.from
