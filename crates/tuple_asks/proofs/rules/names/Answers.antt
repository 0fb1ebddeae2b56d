use Rattle.std.proofs.Common.{arith}
use Rattle.tuple_asks.proofs.NamedRuns.{none_named}
use Rattle.tuple_asks.proofs.rules.names.Goals as goal

-- none was found
pub returns : goal.returns
returns c = (
  λ t. absurd (cc),
  λ named. absurd (none_named c.args.step c.args.file c.args.runs.now c.loop-slot.slot
      (omega arith) c.loop-slot.invariant named),
)
