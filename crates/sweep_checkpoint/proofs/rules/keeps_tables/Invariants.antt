use Rattle.std.proofs.Common.{take}
use Rattle.std.specs.Prelude.{All}
use Rattle.sweep_checkpoint.specs.Rules.{IsSlot}
use Rattle.sweep_checkpoint.proofs.rules.keeps_tables.Given as goal

-- the tables so far keep the rule
abbrev pub invariant-loop-k : goal.invariant-loop-k
invariant-loop-k l = All (All (IsSlot l.next_part)) (take l.k l.tables)
