use Rattle.std.specs.Prelude.{[], IsTrue}
use Rattle.std.proofs.lemmas.Result.{on_ok_weaker}
use Rattle.sweep_core.specs.Saving.{reads_of}
use Rattle.top_down_sweep.specs.Resumes.{top_saving}
use Rattle.top_down_sweep.specs.Sweeps.{accounts}
use Rattle.top_down_sweep.proofs.Holding.{if_err_map}
use Rattle.table_work.specs.Tables.{sweep_of}
use Rattle.table_work.proofs.TableResumes.{carries_along, ready_on, keeps_tables, left_tables, stands_tables, where_tables, still_tables}
use Rattle.table_work.proofs.sweep.TableSweepSweep.carry.Goals as goal

-- its two files stay two
pub returns-clause-ready : goal.returns-clause-ready
returns-clause-ready g c = on_ok_weaker c.carry.result (ready_on (sweep_of c.args.self.now) c.carry.new.self
    c.requires.ready (λ i. (c.carry.ensures.same i).0)) c.carry.ensures.ready

-- what is kept of a task is kept of its table
pub returns-clause-keeps : goal.returns-clause-keeps
returns-clause-keeps g c = on_ok_weaker c.carry.result (keeps_tables g.O.Operation.rule g.O.Operation.begins
    (IsTrue (g.S.Shelf.tells c.carry.new.shelf)) (sweep_of c.args.self.now) c.carry.new.self
    (g.S.Shelf.world c.args.shelf.now) (g.S.Shelf.world c.carry.new.shelf)) c.carry.ensures.keeps

pub returns-clause-left : goal.returns-clause-left
returns-clause-left g c = on_ok_weaker c.carry.result (left_tables g.O.Operation.rule g.O.Operation.begins
    (IsTrue (g.S.Shelf.tells c.carry.new.shelf)) (sweep_of c.args.self.now) c.carry.new.self
    (g.S.Shelf.world c.args.shelf.now) (g.S.Shelf.world c.carry.new.shelf)) c.carry.ensures.left

-- the checkpoint stands for it
pub returns-clause-stands : goal.returns-clause-stands
returns-clause-stands g c = on_ok_weaker c.carry.result (stands_tables g.O.Operation.rule g.O.Operation.begins
    (top_saving g.O.Carried g.O.Operation.rule g.O.Operation.begins) c.carry.new.into []
    (reads_of (g.S.Shelf.world c.carry.new.shelf)) (IsTrue (g.S.Shelf.tells c.carry.new.shelf))
    (sweep_of c.args.self.now) c.carry.new.self (g.S.Shelf.world c.args.shelf.now)
    (g.S.Shelf.world c.carry.new.shelf)) c.carry.ensures.stands

pub returns-clause-sure : goal.returns-clause-sure
returns-clause-sure g c = on_ok_weaker c.carry.result (where_tables g.O.Operation.rule g.O.Operation.begins
    (IsTrue (g.S.Shelf.tells c.carry.new.shelf)) (sweep_of c.args.self.now) (g.S.Shelf.world c.args.shelf.now))
    c.carry.ensures.sure

pub returns-clause-still : goal.returns-clause-still
returns-clause-still g c = on_ok_weaker c.carry.result (λ still later used. still_tables g.O.Operation.rule
    g.O.Operation.begins _ _ c.carry.new.self (g.S.Shelf.world c.carry.new.shelf) later (still later used))
    c.carry.ensures.still

-- what it leaves and costs
pub returns-clause-leaves : goal.returns-clause-leaves
returns-clause-leaves g c = carries_along sweep_of g.S.Shelf.tells g.S.Shelf.world g.S.Shelf.faults (accounts _) 65536
    4608 c.args.shelf.now c.carry.new.shelf c.args.self.now (record { sweep = c.carry.new.self }) c.carry.result
    c.carry.ensures.leaves

pub returns-clause-undamaged : goal.returns-clause-undamaged
returns-clause-undamaged g c = if_err_map c.carry.result (λ e none. where_tables g.O.Operation.rule
    g.O.Operation.begins (IsTrue (g.S.Shelf.tells c.carry.new.shelf)) (sweep_of c.args.self.now)
    (g.S.Shelf.world c.args.shelf.now) none) c.carry.ensures.undamaged
