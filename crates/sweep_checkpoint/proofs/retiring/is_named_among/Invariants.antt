use Rattle.std.proofs.Common.{◌≡◌, take}
use Rattle.std.specs.Prelude.{All}
use Rattle.run_tiers.specs.declared.run.Run.{Run}
use Rattle.sweep_checkpoint.proofs.retiring.is_named_among.Given as goal

-- no slot so far names the part
abbrev pub invariant-loop-k : goal.invariant-loop-k
invariant-loop-k l = All (λ (r : Run). ¬ (r.part ≡ l.part)) (take l.k l.table)
