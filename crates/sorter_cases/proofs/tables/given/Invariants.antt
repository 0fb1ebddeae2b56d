use Rattle.run_tiers.specs.Tables.{IsTable}
use Rattle.sorter_cases.proofs.tables.given.Given as goal

-- the table is one that can be read
abbrev pub invariant-loop-slot : goal.invariant-loop-slot
invariant-loop-slot l = IsTable l.table
