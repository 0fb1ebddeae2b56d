use Rattle.std.proofs.Common.{length, take}
use Rattle.net_plan.specs.Plan.{IsWanted}
use Rattle.net_plan.proofs.plan.mark_wanted.Given as goal

-- the signals so far are wanted
abbrev pub invariant-loop-signal : goal.invariant-loop-signal
invariant-loop-signal l = IsWanted (length l.fn.kept.items) (take l.signal-index l.wanted) l.kept.items
