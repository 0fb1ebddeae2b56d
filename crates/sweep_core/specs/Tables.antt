-- The runs that a checkpoint names, and the rules that its tables keep.
use Rattle.std.specs.Prelude.{◌≡◌, ◌⊎◌, ℕ, ◌-◌, ◌<◌, ◌≤◌, ◌^◌, List, All, take}
use Rattle.std.specs.List.{Any, sum_by}
use Rattle.run_tiers.specs.declared.run.Run.{Run}
use Rattle.sweep_core.specs.declared.checkpoint.Checkpoint.{Checkpoint}

-- the tables that are in use
abbrev pub tables_in_use : Checkpoint → List (List Run)
tables_in_use c = take c.tables c.runs

-- a slot of the table names the part
abbrev pub NamedAmong : ℕ → List Run → Type 0
NamedAmong part table = Any (λ (r : Run). r.part ≡ part) table

-- a slot of one of the tables does
abbrev pub NamedIn : ℕ → List (List Run) → Type 0
NamedIn part tables = Any (NamedAmong part) tables

-- a table of the checkpoint that is in use names the part
abbrev pub Names : Checkpoint → ℕ → Type 0
Names c part = NamedIn part (tables_in_use c)

-- no run stands in the slot
pub record IsUnused (r : Run) : Type 0 where
  pub part : r.part ≡ 0
  pub next : r.next ≡ 0
  pub last : r.end ≡ 0

-- a run of a part that was taken, of which no more was taken than it has
pub record IsTakenRun (next_part : ℕ) (r : Run) : Type 0 where
  pub from : 3 ≤ r.part
  pub below : r.part < next_part
  pub within : r.next ≤ r.end
  pub small : r.end ≤ 2 ^ 44

-- a slot of a table that is in use
abbrev pub IsSlot : ℕ → Run → Type 0
IsSlot next_part r = IsUnused r ⊎ IsTakenRun next_part r

-- the tables that are in use are lawful, of parts below the next one
pub record HasTables (c : Checkpoint) : Type 0 where
  pub tables : c.tables ≤ 9
  pub runs : All (All (IsSlot c.next_part)) (tables_in_use c)

-- how many records are left of the runs of a table, and of all those that are in use
abbrev pub records_left : List Run → ℕ
records_left table = sum_by (λ (r : Run). r.end - r.next) table

abbrev pub records_named : Checkpoint → ℕ
records_named c = sum_by records_left (tables_in_use c)
