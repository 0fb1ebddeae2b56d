use Rattle.std.proofs.Common.{◌≡◌, ◌++◌, ◌*◌, ◌≤◌, map, drop, length}
use Rattle.std.specs.List.{AllByRecursion}
use Rattle.blif_reader.specs.Statements.{statement_of}
use Rattle.blif_reader.specs.Netlist.{IsRow, rows_behind}
use Rattle.blif_reader.specs.Views.{rows_in}
use Rattle.blif_reader.proofs.blocks.rows.Given as goal

-- the rows so far and those that are left are all, and each has its width
abbrev pub invariant-loop-statement : goal.invariant-loop-statement
invariant-loop-statement l = record {
  all : rows_in l.count l.width l.cells.items ++ rows_behind (map statement_of (drop l.statement-index l.statements)) ≡ rows_behind (map statement_of l.statements);
  left : AllByRecursion (IsRow l.width) (rows_behind (map statement_of (drop l.statement-index l.statements)));
  size : length l.cells.items ≡ l.count * l.width;
  few : l.count ≤ l.statement-index;
}
