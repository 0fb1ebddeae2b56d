use Rattle.std.specs.Prelude.{IsTrue}
use Rattle.top_down_sweep.proofs.Doing.{refused_spent}
use Rattle.table_work.specs.Tables.{sweep_of}
use Rattle.table_work.proofs.Workings.{keeps_within, undamaged_within, fewer_within}
use Rattle.table_work.proofs.sweep.TableSweepSweep.turn.Goals as goal

-- what keeps each task keeps each table
pub returns-clause-keeps : goal.returns-clause-keeps
returns-clause-keeps g c = keeps_within g.O.Operation.rule g.O.Operation.begins
    (IsTrue (g.S.Shelf.tells c.turn.new.shelf)) c.turn.result (sweep_of c.args.self.now) c.turn.new.self
    (g.S.Shelf.world c.args.shelf.now) (g.S.Shelf.world c.turn.new.shelf) c.turn.ensures.keeps

pub returns-clause-undamaged : goal.returns-clause-undamaged
returns-clause-undamaged g c = undamaged_within g.O.Operation.rule g.O.Operation.begins
    (IsTrue (g.S.Shelf.tells c.turn.new.shelf)) c.turn.result (sweep_of c.args.self.now)
    (g.S.Shelf.world c.args.shelf.now) c.turn.ensures.undamaged

pub returns-clause-fewer : goal.returns-clause-fewer
returns-clause-fewer g c = fewer_within g.O.Operation.rule g.O.Operation.begins
    (IsTrue (g.S.Shelf.tells c.turn.new.shelf)) c.turn.result (sweep_of c.args.self.now) c.turn.new.self
    (g.S.Shelf.world c.args.shelf.now) (g.S.Shelf.world c.turn.new.shelf) c.turn.ensures.falls c.turn.ensures.fewer

-- it is refused for want of a part number where none is left
pub returns-clause-spent : goal.returns-clause-spent
returns-clause-spent g c = refused_spent c.turn.new.self c.turn.result c.turn.ensures.refused
