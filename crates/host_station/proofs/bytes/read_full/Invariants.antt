use Rattle.std.proofs.Common.{length, ◌+◌, ◌-◌, ◌≤◌}
use Rattle.host_station.proofs.bytes.read_full.Given as goal

-- no more was read than the buffer takes
abbrev pub invariant-loop-done : goal.invariant-loop-done
invariant-loop-done g l = l.done ≤ length l.buf

-- each turn reads bytes or spends a try
abbrev pub decreases-loop-done : goal.decreases-loop-done
decreases-loop-done g l = (length l.initial.buf - l.done) + l.tries
