use Rattle.std.proofs.lemmas.Bool.{false≢true}
use Rattle.reduce_sweep.proofs.reduce.ReduceSweep.names.Goals as goal

-- no words of a reduction stand there
pub returns-in-None : goal.returns-in-None
returns-in-None c = (
  λ is. absurd (false≢true is),
  λ names. absurd (c.in-None.ensures.none names.saved names.holds),
)
