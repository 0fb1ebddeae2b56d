use Rattle.std.proofs.Common.{arith}
use Rattle.top_down_sweep.proofs.QueueCalls.{does_shown}
use Rattle.top_down_sweep.proofs.StandingOn.{shows_ask, shows_undamaged, arcs_shown}
use Rattle.top_down_sweep.proofs.Doing.{on_ok}
use Rattle.top_down_sweep.proofs.Holding.{shown_at}
use Rattle.top_down_sweep.proofs.FuelLaws.{first_shown}
use Rattle.top_down_sweep.proofs.Counts.{as_many}
use Rattle.top_down_sweep.proofs.machine.Machine.first_ask.Goals as goal

-- no file was changed
pub returns-clause-does : goal.returns-clause-does
returns-clause-does g c =
    let served = c.requires.fit.sound.served in
    does_shown g.S.Shelf.tells g.S.Shelf.world g.S.Shelf.faults 8 _ _ c.args.self.now c.peek.new.self
    c.peek.result served c.peek.ensures.content
    (λ told. let paid = c.peek.ensures.calls told in omega (arith, paid))
    c.peek.ensures.spent c.peek.ensures.faults (c.peek.ensures.serves c.args.self.now.parts served.serves)
    c.peek.ensures.values c.peek.ensures.cause

-- the ask that is answered is a value that isn't less than the last one taken, and is shown
pub returns-clause-shown : goal.returns-clause-shown
returns-clause-shown g c = first_shown _ _ c.peek.result c.peek.ensures.last c.peek.ensures.value
    c.peek.ensures.order c.peek.ensures.shown

-- it is the first one of those that wait
pub returns-clause-holds : goal.returns-clause-holds
returns-clause-holds g c = shown_at g.S.Shelf.tells g.S.Shelf.world _ _ c.args.self.now
    c.peek.new.self c.peek.result c.requires.fit.sound.operands c.peek.ensures.content
    c.peek.ensures.list c.peek.ensures.runs

-- the lists that it stands for stay
pub returns-clause-list : goal.returns-clause-list
returns-clause-list g c = shows_ask g.S.Shelf.tells g.S.Shelf.world _ _ c.args.self.now
    c.peek.new.self c.peek.result c.requires.fit.sound.operands c.peek.ensures.content
    c.peek.ensures.list c.peek.ensures.runs

pub returns-clause-arcs : goal.returns-clause-arcs
returns-clause-arcs g c = on_ok c.peek.result (λ told. arcs_shown c.args.self.now.writer _ _
    (c.peek.ensures.content.did told))

pub returns-clause-undamaged : goal.returns-clause-undamaged
returns-clause-undamaged g c = shows_undamaged g.S.Shelf.tells g.S.Shelf.world _ _
    c.args.self.now c.peek.new.self c.peek.result c.peek.ensures.list

pub returns-clause-load : goal.returns-clause-load
returns-clause-load g c = as_many _ _ c.peek.result c.peek.ensures.count
