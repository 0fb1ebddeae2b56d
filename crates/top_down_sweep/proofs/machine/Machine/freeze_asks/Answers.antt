use Rattle.top_down_sweep.proofs.MadeSure.{arcs_same, freeze_tables, freeze_saves}
use Rattle.top_down_sweep.proofs.machine.Machine.freeze_asks.Goals as goal

-- only runs were made sure, and parts were taken for them
pub returns-clause-saves : goal.returns-clause-saves
returns-clause-saves g c = freeze_saves g.S.Shelf.tells g.S.Shelf.world c.args.shelf.now c.freeze.new.shelf
    c.args.self.now c.freeze.new.self c.freeze.new.parts c.requires.fit c.freeze.ensures.content c.freeze.ensures.parts
    c.freeze.ensures.runs c.freeze.result c.freeze.ensures.list g.S.Shelf.faults c.freeze.ensures.values
    c.freeze.ensures.serves c.freeze.ensures.last c.freeze.ensures.count (λ is. c.freeze.ensures.calls is)
    c.freeze.ensures.spent c.freeze.ensures.faults c.freeze.ensures.cause

-- the files of arcs are no runs
pub returns-clause-same : goal.returns-clause-same
returns-clause-same g c = arcs_same g.S.Shelf.tells g.S.Shelf.world c.args.shelf.now c.freeze.new.shelf
    c.args.self.now c.freeze.new.self c.freeze.new.parts c.requires.fit c.freeze.ensures.content c.freeze.ensures.parts
    c.freeze.ensures.runs

-- the tables are those of its runs
pub returns-clause-tables : goal.returns-clause-tables
returns-clause-tables g c = freeze_tables g.S.Shelf.tells g.S.Shelf.world c.args.shelf.now c.freeze.new.shelf
    c.args.self.now c.freeze.new.self c.freeze.new.parts c.requires.fit c.freeze.ensures.content c.freeze.ensures.parts
    c.freeze.ensures.runs c.freeze.result c.freeze.ensures.list c.freeze.ensures.tables c.freeze.ensures.slots
    c.freeze.ensures.serves_tables c.freeze.ensures.named c.freeze.ensures.only c.freeze.ensures.firm
