use Rattle.std.proofs.Common.{◌≡◌, ◌*◌, take}
use Rattle.sweep_checkpoint.specs.Points.{table_bytes, AreRuns}
use Rattle.sweep_checkpoint.proofs.point.read_table.Given as goal

-- the slots so far are those of the first bytes
abbrev pub invariant-loop-k : goal.invariant-loop-k
invariant-loop-k l = record {
  bytes : table_bytes (take l.k l.table) ≡ take (24 * l.k) l.bytes;
  runs : AreRuns (take l.k l.table);
}
