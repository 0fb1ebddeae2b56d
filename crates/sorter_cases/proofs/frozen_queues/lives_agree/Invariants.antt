use Rattle.std.proofs.Common.{◌≡◌}
use Rattle.level_queue.specs.Tables.{AreTables, ServeTables}
use Rattle.sorter_cases.proofs.frozen_queues.lives_agree.Given as goal

-- the tables are ones that can be read, and the parts can serve them
abbrev pub invariant-loop-life : goal.invariant-loop-life
invariant-loop-life l = record {
  step : l.parts.step ≡ 0;
  tables : AreTables l.frozen.0;
  serves : ServeTables l.parts l.frozen.0;
}
