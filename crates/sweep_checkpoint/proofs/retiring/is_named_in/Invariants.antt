use Rattle.std.proofs.Common.{take}
use Rattle.std.specs.Prelude.{All}
use Rattle.sweep_checkpoint.specs.Retires.{NamedAmong}
use Rattle.sweep_checkpoint.proofs.retiring.is_named_in.Given as goal

-- no table so far names the part
abbrev pub invariant-loop-k : goal.invariant-loop-k
invariant-loop-k l = All (λ table. ¬ (NamedAmong l.part table)) (take l.k l.tables)
