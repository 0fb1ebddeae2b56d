use Rattle.std.proofs.Common.{◌≡◌, ◌+◌, ◌-◌, ◌≤◌, length, drop, map, get_or}
use Rattle.net_plan.specs.Covers.{columns, cube}
use Rattle.net_plan.proofs.covers.push_cube.Given as goal

-- the columns that are left make the cube of the row
abbrev pub invariant-columns : goal.invariant-columns
invariant-columns l = record {
  same : columns l.first (record { steps = l.steps.items; at = l.at }) (drop l.column l.cells) (drop l.column (map (λ t. get_or l.made t 0) l.inputs)) ≡ cube l.first l.fn.steps.items l.cells (map (λ t. get_or l.made t 0) l.inputs);
  few : l.first + length l.steps.items ≤ 1048576;
}

abbrev pub decreases-columns : goal.decreases-columns
decreases-columns l = length l.inputs - l.column
