use Rattle.std.proofs.Common.{refl, arith}
use Rattle.reduce_sweep.proofs.TurnKeeps.{between_where}
use Rattle.reduce_sweep.proofs.reduce.ReduceSweep.handle_level.Goals as goal

-- no level is open
pub returns-in_default-clause-handles : goal.returns-in_default-clause-handles
returns-in_default-clause-handles g c = (between_where c.args.self.now.place.phase c.in_default.not-Collect c.in_default.not-Number c.in_default.not-Forward c.requires.going, omega arith, refl)
