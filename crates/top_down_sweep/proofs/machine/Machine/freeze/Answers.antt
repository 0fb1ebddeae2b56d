use Rattle.std.proofs.Common.{arith}
use Rattle.top_down_sweep.proofs.MadeSure.{fit_works, settled_on, tables_on, saves_then, saves_more, saves_ok, saves_err}
use Rattle.top_down_sweep.proofs.machine.Machine.freeze.Goals as goal

-- while it works, its files of arcs end behind what was put
pub settle-requires : goal.settle-requires
settle-requires g c = record {
  fit = fit_works g.S.Shelf.tells g.S.Shelf.world c.args.shelf.now c.args.self.now c.requires.sound c.requires.works
      c.requires.in_step;
}

-- the arcs can't be made sure
pub returns-in_err-made-clause-saves : goal.returns-in_err-made-clause-saves
returns-in_err-made-clause-saves g c = saves_more g.S.Shelf.tells g.S.Shelf.world g.S.Shelf.faults 4 2052 0 512
    c.args.shelf.now c.settle.new.shelf c.args.self.now c.settle.new.self c.from_residual.result (omega arith)
    (omega arith) (saves_err g.S.Shelf.tells g.S.Shelf.world g.S.Shelf.faults 4 0 c.args.shelf.now c.settle.new.shelf
    c.args.self.now c.settle.new.self c.from_residual.result c.in_err-made.field-0.0 c.from_residual.ensures.1
    c.in_err-made.ensures.saves)

-- nor the asks
pub returns-in_err-tables-clause-saves : goal.returns-in_err-tables-clause-saves
returns-in_err-tables-clause-saves g c = saves_err g.S.Shelf.tells g.S.Shelf.world g.S.Shelf.faults 2052 512
    c.args.shelf.now c.freeze_asks.new.shelf c.args.self.now c.freeze_asks.new.self
    c.from_residual-in_err-tables.result c.in_err-tables.field-0.0 c.from_residual-in_err-tables.ensures.1
    (saves_then g.S.Shelf.tells g.S.Shelf.world g.S.Shelf.faults 4 2048 0 512 c.args.shelf.now c.settle.new.shelf
    c.freeze_asks.new.shelf c.args.self.now c.settle.new.self c.freeze_asks.new.self _ _ c.in_ok-made.ensures.saves
    c.in_ok-made.ensures.saves.keeps c.in_err-tables.ensures.saves)

-- both are
pub returns-clause-saves : goal.returns-clause-saves
returns-clause-saves g c = saves_ok g.S.Shelf.tells g.S.Shelf.world g.S.Shelf.faults 2052 512
    c.args.shelf.now c.freeze_asks.new.shelf c.args.self.now c.freeze_asks.new.self c.in_ok-tables.tables _
    (saves_then g.S.Shelf.tells g.S.Shelf.world g.S.Shelf.faults 4 2048 0 512 c.args.shelf.now c.settle.new.shelf
    c.freeze_asks.new.shelf c.args.self.now c.settle.new.self c.freeze_asks.new.self _ _ c.in_ok-made.ensures.saves
    c.in_ok-made.ensures.saves.keeps c.in_ok-tables.ensures.saves)

-- the arcs stay where the asks are made sure
pub returns-clause-arcs : goal.returns-clause-arcs
returns-clause-arcs g c = settled_on g.S.Shelf.tells g.S.Shelf.world c.args.shelf.now c.settle.new.shelf
    c.freeze_asks.new.shelf c.args.self.now c.settle.new.self c.freeze_asks.new.self c.in_ok-made.made
    c.in_ok-made.ensures.arcs c.in_ok-tables.ensures.saves.carries.content.before c.freeze_asks.ensures.writer
    c.freeze_asks.ensures.same

pub returns-clause-tables : goal.returns-clause-tables
returns-clause-tables g c = tables_on g.S.Shelf.tells g.S.Shelf.world c.args.shelf.now c.settle.new.shelf
    c.freeze_asks.new.shelf c.args.self.now c.settle.new.self c.freeze_asks.new.self c.in_ok-tables.tables
    c.in_ok-tables.ensures.saves.carries.content.before c.in_ok-made.ensures.saves.keeps c.in_ok-tables.ensures.tables
