-- The tables of a checkpoint of a reduction.
use Rattle.std.specs.Prelude.{◌≡◌, ◌≢◌, ℕ, ◌<◌, ◌≤◌, List, All, map, replicate}
use Rattle.shelf_model.specs.declared.file_no.FileNo.{FileNo}
use Rattle.run_tiers.specs.declared.parts.Parts.{Parts}
use Rattle.run_tiers.specs.declared.run.Run.{Run}
use Rattle.run_tiers.specs.declared.run.RunTable.{RunTable}
use Rattle.run_tiers.specs.Tables.{IsTable, IsEmptyTable, IsInUse, ServeTable, no_run}
use Rattle.run_merge.specs.Tables.{IsBeforeEnd}
use Rattle.level_queue.specs.Tables.{table_at}
use Rattle.sweep_core.specs.declared.checkpoint.Checkpoint.{Checkpoint}
use Rattle.sweep_core.specs.Tables.{tables_in_use}

-- the table of these slots
abbrev pub as_table : List Run → RunTable
as_table runs = record { runs = runs }

-- the tables that are in use
abbrev pub tables_of : Checkpoint → List RunTable
tables_of c = map as_table (tables_in_use c)

-- the part numbers that weren't taken
abbrev pub parts_left : Checkpoint → Parts
parts_left c = record { step = c.step; next = c.next_part }

-- the table can be read, its runs have parts that were taken, and none of them has this one
pub record IsSavedTable (c : Checkpoint) (part : ℕ) (table : RunTable) : Type 0 where
  pub read : IsTable table
  pub served : ServeTable (parts_left c) table
  pub apart : All (λ r. IsInUse r → r.part ≢ part) table.runs

-- five tables are in use: three of the queue, of which the second and the third are empty, that of the rows, and that
-- of the names
pub record AreSavedTables (c : Checkpoint) (part : ℕ) : Type 0 where
  pub count : c.tables ≡ 5
  pub each : (k : ℕ) → k < 5 → IsSavedTable c part (table_at (tables_of c) k)
  pub second : IsEmptyTable (table_at (tables_of c) 1)
  pub third : IsEmptyTable (table_at (tables_of c) 2)

-- the file is that of a run that a table in use names, and so many of its bytes stand before the run's end
abbrev pub IsRunFront : Checkpoint → FileNo → ℕ → Type 0
IsRunFront c f n = (k : ℕ) × (k < c.tables) × IsBeforeEnd c.step (table_at (tables_of c) k) f n

-- a table was taken of a checkpoint: that of the number, or one without runs where it isn't in use
pub record IsPicked (c : Checkpoint) (k : ℕ) (table : RunTable) : Type 0 where
  pub used : k < c.tables → table ≡ table_at (tables_of c) k
  pub unused : c.tables ≤ k → table ≡ record { runs = replicate 64 no_run }
