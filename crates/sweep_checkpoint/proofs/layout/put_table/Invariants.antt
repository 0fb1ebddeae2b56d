use Rattle.std.proofs.Common.{◌≡◌, ◌++◌, ◌*◌, take, drop}
use Rattle.sweep_checkpoint.specs.Points.{table_bytes, AreRuns}
use Rattle.sweep_checkpoint.proofs.layout.put_table.Given as goal

-- the bytes of the slots so far stand in front
abbrev pub invariant-loop-k : goal.invariant-loop-k
invariant-loop-k l = record {
  bytes : l.bytes ≡ table_bytes (take l.k l.table) ++ drop (24 * l.k) l.initial.bytes;
  runs : AreRuns (take l.k l.table);
}
