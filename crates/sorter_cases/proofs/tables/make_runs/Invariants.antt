use Rattle.std.proofs.Common.{◌≡◌}
use Rattle.run_tiers.specs.Tables.{IsTable, ServeTable}
use Rattle.sorter_cases.proofs.tables.make_runs.Given as goal

-- the table is one that can be read, and the parts can serve it
abbrev pub invariant-loop-run : goal.invariant-loop-run
invariant-loop-run l = record {
  step : l.parts.step ≡ 0;
  table : IsTable l.table;
  serves : ServeTable l.parts l.table;
}
