use Rattle.std.proofs.Common.{◌≡◌, ◌++◌, ◌*◌, take, drop}
use Rattle.std.specs.List.{flat_map}
use Rattle.sweep_checkpoint.specs.Points.{table_bytes, AreTables}
use Rattle.sweep_checkpoint.proofs.layout.put_tables.Given as goal

-- the bytes of the tables so far stand in front
abbrev pub invariant-loop-k : goal.invariant-loop-k
invariant-loop-k l = record {
  bytes : l.bytes ≡ flat_map table_bytes (take l.k l.tables) ++ drop (1536 * l.k) l.initial.bytes;
  tables : AreTables (take l.k l.tables);
}
