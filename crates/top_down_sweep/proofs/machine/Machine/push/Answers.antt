use Rattle.top_down_sweep.proofs.StandingOn.{joins_ask, joins_undamaged, arcs_spilled}
use Rattle.top_down_sweep.proofs.Holding.{put_at, served_on}
use Rattle.std.proofs.Common.{rules}
use Rattle.top_down_sweep.proofs.Doing.{on_ok}
use Rattle.top_down_sweep.proofs.QueueCalls.{does_put, spilled_at_work}
use Rattle.top_down_sweep.proofs.Counts.{one_more}
use Rattle.top_down_sweep.proofs.machine.Machine.push.Goals as goal

-- only files of parts that were taken changed
pub returns-clause-does : goal.returns-clause-does
returns-clause-does g c = does_put g.S.Shelf.tells g.S.Shelf.world g.S.Shelf.faults 48 3 _ _
    c.args.self.now c.push.new.self c.push.new.parts c.push.result c.requires.fit.sound.served
    c.push.ensures.content (λ told. c.push.ensures.calls told) c.push.ensures.parts
    c.push.ensures.spent c.push.ensures.faults c.push.ensures.cause

-- it waits too
pub returns-clause-holds : goal.returns-clause-holds
returns-clause-holds g c = put_at g.S.Shelf.tells g.S.Shelf.world _ _ c.args.self.now
    c.push.new.self c.push.new.parts c.args.ask c.push.result c.requires.fit.sound.served
    c.requires.fit.sound.operands
    c.push.ensures.content c.push.ensures.parts c.push.ensures.runs c.push.ensures.list

pub returns-clause-fit : goal.returns-clause-fit
returns-clause-fit g c =
    let s = c.args.self.now in
    let sound = c.requires.fit.sound in
    let served = served_on s c.push.new.self c.push.new.parts sound.served c.push.ensures.parts
    c.push.ensures.values c.push.ensures.serves c.push.ensures.runs in
    on_ok c.push.result (record {
      sound = record {
        served = served;
        operands = sound.operands;
        phase = search rules;
      };
      at_work = λ told. spilled_at_work s _ _ _ sound.served (c.push.ensures.content.did told)
          (c.requires.fit.at_work (c.push.ensures.content.before told));
    })

-- it joins the list
pub returns-clause-list : goal.returns-clause-list
returns-clause-list g c = joins_ask g.S.Shelf.tells g.S.Shelf.world _ _ c.args.self.now
    c.push.new.self c.push.new.parts c.push.ensures.content c.args.ask c.push.result
    c.requires.fit.sound.served c.requires.fit.sound.operands c.push.ensures.parts
    c.push.ensures.runs c.push.ensures.list

-- the files of arcs stay
pub returns-clause-arcs : goal.returns-clause-arcs
returns-clause-arcs g c = on_ok c.push.result (λ told. arcs_spilled c.args.self.now
    c.push.new.parts _ _ c.requires.fit.sound.served (c.push.ensures.content.did told))

pub returns-clause-undamaged : goal.returns-clause-undamaged
returns-clause-undamaged g c = joins_undamaged g.S.Shelf.tells g.S.Shelf.world _ _
    c.args.self.now c.push.new.self c.push.new.parts c.push.ensures.content c.args.ask
    c.push.result c.push.ensures.list

pub returns-clause-load : goal.returns-clause-load
returns-clause-load g c = one_more _ _ c.push.result c.push.ensures.count
