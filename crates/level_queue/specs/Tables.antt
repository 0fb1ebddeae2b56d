-- What three tables and the last item taken stand for. The queue keeps its items in one sorter, whose table is the
-- first; the others are empty.
use Rattle.std.specs.Prelude.{ℕ, List, All, Option, slice_index_or}
use Rattle.std.specs.declared.cmp.Ordering.{Ordering}
use Rattle.shelf_model.specs.declared.file_no.FileNo.{FileNo}
use Rattle.shelf_model.specs.World.{World}
use Rattle.run_tiers.specs.declared.parts.Parts.{Parts}
use Rattle.run_tiers.specs.declared.run.RunTable.{RunTable}
use Rattle.run_tiers.specs.Tables.{IsTable, IsEmptyTable, IsTidyTable, IsBareTable, IsFirmTable, Names, ServeTable, StayToEnds, heads_of, no_runs, table_left}
use Rattle.run_merge.specs.Tables.{TableLists, TableShows, IsBeforeEnd}
use Rattle.level_queue.specs.Queues.{IsNoLess}

-- the table of that number
abbrev pub table_at : List RunTable → ℕ → RunTable
table_at tables k = slice_index_or tables k no_runs

-- the first table is one that can be read, and the others are empty
pub record AreTables (tables : List RunTable) : Type 0 where
  pub first : IsTable (table_at tables 0)
  pub second : IsEmptyTable (table_at tables 1)
  pub third : IsEmptyTable (table_at tables 2)

-- each slot of the first table is in use, or no run stands in it; none stands in the others
pub record AreTidyTables (tables : List RunTable) : Type 0 where
  pub first : IsTidyTable (table_at tables 0)
  pub second : IsBareTable (table_at tables 1)
  pub third : IsBareTable (table_at tables 2)

-- how many records are left of the runs of the tables
abbrev pub tables_left : List RunTable → ℕ
tables_left tables = table_left (table_at tables 0)

-- the parts can serve the tables
abbrev pub ServeTables : Parts → List RunTable → Type 0
ServeTables parts tables = ServeTable parts (table_at tables 0)

-- each run that the tables name is its own only image
abbrev pub AreFirmTables : ℕ → List RunTable → World → Type 0
AreFirmTables step tables world = IsFirmTable step (table_at tables 0) world

-- the file is that of a run of the tables of a step
abbrev pub NamesAny : ℕ → List RunTable → FileNo → Type 0
NamesAny step tables f = Names step (table_at tables 0) f

-- the bytes of the files of the tables' runs stay up to where these end
abbrev pub TablesStay : ℕ → List RunTable → World → World → Type 0
TablesStay step tables old new = StayToEnds (heads_of step (table_at tables 0)) old new

-- in that world the tables of a step's runs stand for these values, which ascend, and none of which is less than the
-- last one taken
pub record TablesList {T : Type 0} (is_value : T → Type 0) (words : T → List ℕ) (cmp : T → T → Ordering) (step : ℕ)
    (tables : List RunTable) (last : Option T) (world : World) (xs : List T) : Type 0 where
  pub sorter : TableLists is_value words cmp step (table_at tables 0) world xs
  pub reached : All (IsNoLess cmp last) xs

-- the file is that of a run of the tables of a step of which records are left, and so many of its bytes stand before
-- the run's end
abbrev pub IsBeforeAnyEnd : ℕ → List RunTable → FileNo → ℕ → Type 0
IsBeforeAnyEnd step tables f n = IsBeforeEnd step (table_at tables 0) f n

-- where files have these bytes, the tables of a step's runs stand for these values, none of which is less than the last
-- one taken
pub record TablesShow {T : Type 0} (is_value : T → Type 0) (words : T → List ℕ) (cmp : T → T → Ordering) (step : ℕ)
    (tables : List RunTable) (last : Option T) (r : FileNo → List ℕ) (xs : List T) : Type 0 where
  pub sorter : TableShows is_value words cmp step (table_at tables 0) r xs
  pub reached : All (IsNoLess cmp last) xs
