use Rattle.std.proofs.Common.{◌≡◌, length}
use Rattle.case_tables.proofs.random.Random.table.Given as goal

-- there is a value for each place so far
abbrev pub invariant-loop-place : goal.invariant-loop-place
invariant-loop-place l = length l.table.items ≡ l.place
