use Rattle.std.proofs.Common.{◌≡◌, ◌+◌, ◌≤◌, length, drop, map, get_or, false}
use Rattle.depth_first.specs.Graph.{edges_of}
use Rattle.bool_tables.specs.declared.steps.Step.TheVariants.{Const}
use Rattle.blif_reader.specs.Netlist.{cover_at}
use Rattle.blif_reader.specs.Answers.{net_of}
use Rattle.net_plan.specs.Covers.{put, rows}
use Rattle.net_plan.proofs.covers.push_rows.Given as goal

-- the rows that are left make the sum of all
abbrev pub invariant-loop-place : goal.invariant-loop-place
invariant-loop-place l = record {
  same : rows l.first (record { steps = l.steps.items; at = l.sum }) (drop l.place (cover_at (net_of l.net) l.signal).rows) (map (λ t. get_or l.made t 0) (edges_of (net_of l.net).edges l.signal)) ≡ rows l.first (put l.first l.fn.steps.items (Const false)) (cover_at (net_of l.net) l.signal).rows (map (λ t. get_or l.made t 0) (edges_of (net_of l.net).edges l.signal));
  few : l.first + length l.steps.items ≤ 1048576;
}
