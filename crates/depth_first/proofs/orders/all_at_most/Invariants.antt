use Rattle.std.proofs.Common.{◌<◌, ◌≤◌, ℕ, get_or}
use Rattle.depth_first.proofs.orders.all_at_most.Given as goal

-- no number so far is larger
abbrev pub invariant-loop-target : goal.invariant-loop-target
invariant-loop-target l = (i : ℕ) → i < l.target-index → get_or l.numbers (get_or l.targets i 0) 0 ≤ l.bound
