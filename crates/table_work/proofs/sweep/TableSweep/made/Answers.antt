use Rattle.table_work.specs.Tables.{sweep_of}
use Rattle.table_work.proofs.Workings.{gives_within}
use Rattle.table_work.proofs.sweep.TableSweep.made.Goals as goal

pub returns : goal.returns
returns g c = gives_within g.O.Operation.rule g.O.Operation.begins (sweep_of c.args.self.now) c.made.result
    c.made.ensures
