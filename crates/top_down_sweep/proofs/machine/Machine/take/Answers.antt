use Rattle.node_reading.proofs.NodeReading.{if_handed}
use Rattle.top_down_sweep.proofs.StandingOn.{first_taken, takes_ask, takes_undamaged, arcs_spilled}
use Rattle.top_down_sweep.proofs.Holding.{taken_at, served_on}
use Rattle.level_queue.specs.Queues.{held, shown, last_of}
use Rattle.top_down_sweep.proofs.Doing.{does_ok, does_err}
use Rattle.top_down_sweep.proofs.QueueCalls.{does_taken, spilled_at_work}
use Rattle.top_down_sweep.proofs.FuelLaws.{taken_count}
use Rattle.top_down_sweep.proofs.Phases.{phase_taken}
use Rattle.top_down_sweep.proofs.Counts.{taken_last}
use Rattle.top_down_sweep.proofs.machine.Machine.take.Goals as goal

-- only files of parts that were taken changed
pub returns-clause-does : goal.returns-clause-does
returns-clause-does g c = does_ok g.S.Shelf.tells g.S.Shelf.world g.S.Shelf.faults 8 0 _ _ _ _ c.take.result _
    (does_taken g.S.Shelf.tells g.S.Shelf.world g.S.Shelf.faults 8 0 _ _
    c.args.self.now c.take.new.self c.take.new.parts c.take.result c.requires.fit.sound.served
    c.take.ensures.content (λ told. c.take.ensures.calls told) c.take.ensures.parts
    c.take.ensures.spent c.take.ensures.faults c.take.ensures.serves c.take.ensures.values
    c.take.ensures.cause)

pub returns-in_err-take-clause-does : goal.returns-in_err-take-clause-does
returns-in_err-take-clause-does g c = does_err g.S.Shelf.tells g.S.Shelf.world g.S.Shelf.faults 8 0 _ _ _ _
    c.from_residual.result c.take.result c.in_err-take.field-0.0 c.from_residual.ensures.1 c.in_err-take.was
    (does_taken g.S.Shelf.tells g.S.Shelf.world g.S.Shelf.faults 8 0 _ _
    c.args.self.now c.take.new.self c.take.new.parts c.take.result c.requires.fit.sound.served
    c.take.ensures.content (λ told. c.take.ensures.calls told) c.take.ensures.parts
    c.take.ensures.spent c.take.ensures.faults c.take.ensures.serves c.take.ensures.values
    c.take.ensures.cause)

-- one ask less waits
pub returns-clause-load : goal.returns-clause-load
returns-clause-load g c = taken_count (held c.args.self.now.queue) (held c.take.new.self)
    (shown c.args.self.now.queue) c.in_ok-take.field-0 c.args.ask.now c.requires.shown
    c.in_ok-take.ensures.again c.in_ok-take.ensures.count

-- the ask was taken while asks are answered
pub returns-clause-fit : goal.returns-clause-fit
returns-clause-fit g c =
    let s = c.args.self.now in
    let sound = c.requires.fit.sound in
    let served = served_on s c.take.new.self c.take.new.parts sound.served c.take.ensures.parts
    c.take.ensures.values c.take.ensures.serves c.take.ensures.runs in
    record {
      sound = record {
        served = served;
        operands = sound.operands;
        phase = phase_taken s.writer _ _ s.place.phase c.requires.asking sound.phase;
      };
      at_work = λ told. spilled_at_work s _ _ _ sound.served (c.take.ensures.content.did told)
          (c.requires.fit.at_work (c.take.ensures.content.before told));
    }

-- the others still wait
pub returns-clause-holds : goal.returns-clause-holds
returns-clause-holds g c = taken_at g.S.Shelf.tells g.S.Shelf.world _ _ c.args.self.now
    c.take.new.self c.take.new.parts c.in_ok-take.field-0 c.requires.fit.sound.served
    c.requires.fit.sound.operands
    c.take.ensures.content c.take.ensures.parts c.take.ensures.runs c.in_ok-take.ensures.list

-- it was the first of the list
pub returns-clause-list : goal.returns-clause-list
returns-clause-list g c = takes_ask g.S.Shelf.tells g.S.Shelf.world _ _ c.args.self.now c.take.new.self
    c.take.new.parts c.take.ensures.content c.args.ask.now c.in_ok-take.field-0
    c.requires.fit.sound.served c.requires.fit.sound.operands c.take.ensures.parts
    c.take.ensures.runs c.in_ok-take.ensures.list
    (first_taken c.in_ok-take.field-0 _ c.args.ask.now c.in_ok-take.ensures.again
    c.requires.shown)

-- the files of arcs stay
pub returns-clause-arcs : goal.returns-clause-arcs
returns-clause-arcs g c told = arcs_spilled c.args.self.now c.take.new.parts _ _
    c.requires.fit.sound.served (c.take.ensures.content.did told)

pub returns-in_err-take-clause-undamaged : goal.returns-in_err-take-clause-undamaged
returns-in_err-take-clause-undamaged g c = if_handed _ c.from_residual.result _
    c.from_residual.ensures.1 (takes_undamaged g.S.Shelf.tells g.S.Shelf.world _ _ c.args.self.now
    c.take.new.self c.take.new.parts c.take.ensures.content c.in_err-take.field-0.0
    c.in_err-take.ensures.list)

-- it was taken last
pub returns-clause-last : goal.returns-clause-last
returns-clause-last g c = taken_last (last_of c.args.self.now.queue) (last_of c.take.new.self)
    (shown c.args.self.now.queue) c.in_ok-take.field-0 c.args.ask.now c.requires.shown c.in_ok-take.ensures.again
    c.in_ok-take.ensures.last
