use Rattle.std.proofs.Common.{◌<◌, ℕ}
use Rattle.level_queue.specs.Tables.{table_at}
use Rattle.reduce_sweep.specs.SavedTables.{tables_of, IsSavedTable}
use Rattle.reduce_sweep.proofs.rules.are_lists.Given as goal

-- so it is of each table so far
abbrev pub invariant-loop-k : goal.invariant-loop-k
invariant-loop-k l = (k : ℕ) → k < l.k → IsSavedTable l.point l.part (table_at (tables_of l.point) k)
