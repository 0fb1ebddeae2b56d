-- The rules that a checkpoint keeps, and when bytes are one.
use Rattle.std.specs.Prelude.{◌≡◌, ℕ, ◌<◌, ◌≤◌, ◌^◌, List, All, length, take}
use Rattle.sweep_core.specs.declared.checkpoint.Checkpoint.{Checkpoint}
pub use Rattle.sweep_core.specs.Tables.{tables_in_use, IsUnused, IsTakenRun, IsSlot, HasTables}
use Rattle.sweep_checkpoint.specs.Points.{point_size, tables_end, used_bytes, Fits}

-- it is of that step, of one of two sweeps, and its budget, parts, tables, runs and turns are in their ranges
pub record KeepsRules (step : ℕ) (c : Checkpoint) : Type 0 where
  pub step_is : c.step ≡ step
  pub budget : c.budget < 2 ^ 32
  pub sweep : c.sweep ≤ 1
  pub parts : (3 ≤ c.next_part) × (c.next_part ≤ 2 ^ 32)
  pub tables : c.tables ≤ 9
  pub runs : All (All (IsSlot c.next_part)) (tables_in_use c)
  pub turns : c.turns < 2 ^ 62

-- the bytes are that checkpoint, whole, and it keeps the rules for a step; what stands behind its tables
-- doesn't matter
pub record IsPointOf (step : ℕ) (bytes : List ℕ) (c : Checkpoint) : Type 0 where
  pub whole : length bytes ≡ point_size
  pub used : take tables_end bytes ≡ used_bytes c
  pub fits : Fits c
  pub rules : KeepsRules step c
