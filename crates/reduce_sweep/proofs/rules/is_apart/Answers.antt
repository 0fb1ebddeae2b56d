use Rattle.std.proofs.Common.{◌≢◌, refl, arith}
use Rattle.std.proofs.lemmas.List.Elements.{All-from_get_or}
use Rattle.run_tiers.specs.declared.run.Run.{Run}
use Rattle.run_tiers.specs.Tables.{IsInUse, no_run}
use Rattle.reduce_sweep.proofs.rules.is_apart.Goals as goal

-- none has it where none so far does
pub returns : goal.returns
returns c = (
  λ found. All-from_get_or (λ (r : Run). IsInUse r → r.part ≢ c.args.part) c.args.table.now.runs no_run
      (λ i below. c.loop-slot.invariant i (let many = c.requires.read.many in omega (arith, below, many))),
  λ all. refl,
)
