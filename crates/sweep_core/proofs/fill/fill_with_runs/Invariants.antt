use Rattle.std.proofs.Common.{◌≡◌, length, map, take}
use Rattle.run_tiers.specs.declared.run.RunTable.{RunTable}
use Rattle.sweep_core.specs.Saving.{SameHead}
use Rattle.sweep_core.proofs.fill.fill_with_runs.Given as goal

-- so many tables stand there
abbrev pub invariant-loop-k : goal.invariant-loop-k
invariant-loop-k l = record {
  head : SameHead l.fn.into l.into;
  next : l.into.next_part ≡ l.fn.next_part;
  carry : l.into.carry ≡ l.fn.carry;
  many : length l.into.runs ≡ 9;
  runs : take l.k l.into.runs ≡ map (λ (table : RunTable). table.runs) (take l.k l.tables);
}
