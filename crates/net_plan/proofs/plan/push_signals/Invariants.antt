use Rattle.std.proofs.Common.{◌≡◌, ◌+◌, ◌≤◌, length, drop}
use Rattle.blif_reader.specs.Answers.{net_of}
use Rattle.depth_first.specs.Tables.{IsBlankBut}
use Rattle.net_plan.specs.Plan.{make_signals}
use Rattle.net_plan.proofs.plan.push_signals.Given as goal

-- the signals that are left lead to the same plan
abbrev pub invariant-loop-signal : goal.invariant-loop-signal
invariant-loop-signal l = record {
  same : make_signals (net_of l.net) l.levels l.first (record { steps = l.steps.items; made = l.made.items }) (drop l.signal-index l.visited) ≡ make_signals (net_of l.net) l.levels l.first (record { steps = l.fn.steps.items; made = l.fn.made.items }) l.visited;
  size : length l.made.items ≡ length (net_of l.net).names;
  others : IsBlankBut l.visited 0 l.made.items;
  few : l.first + length l.steps.items ≤ 1048576;
}
