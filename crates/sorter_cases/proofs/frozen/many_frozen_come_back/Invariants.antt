use Rattle.std.proofs.Common.{◌≡◌}
use Rattle.run_tiers.specs.Tables.{IsTable, ServeTable}
use Rattle.sorter_cases.proofs.frozen.many_frozen_come_back.Given as goal

-- the table is one that can be read, and the parts can serve it
abbrev pub invariant-loop-life : goal.invariant-loop-life
invariant-loop-life l = record {
  step : l.parts.step ≡ 0;
  table : IsTable l.table;
  serves : ServeTable l.parts l.table;
}
