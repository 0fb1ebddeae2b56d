use Rattle.std.proofs.Common.{◌≡◌, ◌*◌, take}
use Rattle.std.specs.List.{flat_map}
use Rattle.sweep_checkpoint.specs.Points.{table_bytes, AreTables}
use Rattle.sweep_checkpoint.proofs.point.read_tables.Given as goal

-- the tables so far are those of the first bytes
abbrev pub invariant-loop-k : goal.invariant-loop-k
invariant-loop-k l = record {
  bytes : flat_map table_bytes (take l.k l.tables) ≡ take (1536 * l.k) l.bytes;
  tables : AreTables (take l.k l.tables);
}
