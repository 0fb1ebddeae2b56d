use Rattle.reduce_sweep.specs.Sweeps.{inner_file, ends_file}
use Rattle.reduce_sweep.proofs.Refusing.{refused_spent}
use Rattle.reduce_sweep.proofs.reduce.ReduceSweepSweep.turn.Goals as goal

-- it is refused for want of a part number where none is left
pub returns-clause-spent : goal.returns-clause-spent
returns-clause-spent g c = refused_spent (inner_file c.args.self.now) (ends_file c.args.self.now)
    c.turn.new.self c.turn.result c.turn.ensures.refused
