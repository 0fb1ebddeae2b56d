use Rattle.std.proofs.Common.{arith}
use Rattle.reduce_sweep.proofs.EndKeeps.{file_ended}
use Rattle.reduce_sweep.proofs.reduce.ReduceSweep.end_file.Goals as goal
use Rattle.std.proofs.lemmas.Grind.{common_steps}

-- the file is the canonical one
pub returns-clause-reduced : goal.returns-clause-reduced
returns-clause-reduced g c = λ told d k holds left none.
    file_ended c.args.self.now _ c.in_ok-count.count _ _ d k c.requires.phase c.requires.fit.sound.variables holds left none
    c.end.ensures.same c.in_ok-count.ensures.count (c.in_ok-count.ensures.firm told)

pub returns-clause-does : goal.returns-clause-does
returns-clause-does g c = grind (arith, common_steps)
