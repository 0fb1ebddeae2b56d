use Rattle.std.proofs.Common.{length, ◌+◌, ◌-◌, ◌≤◌}
use Rattle.host_station.proofs.bytes.write_full.Given as goal

-- no more was written than there is
abbrev pub invariant-loop-done : goal.invariant-loop-done
invariant-loop-done g l = l.done ≤ length l.bytes

-- each turn writes bytes or spends a try
abbrev pub decreases-loop-done : goal.decreases-loop-done
decreases-loop-done g l = (length l.bytes - l.done) + l.tries
