use Rattle.level_queue.proofs.QueueLaws.{queue_serves_on}
use Rattle.arc_diagrams.specs.Items.{IsFinalArc, final_arc_words}
use Rattle.std.specs.Prelude.{Ok}
use Rattle.reduce_lists.proofs.Refusing.{if_err_weaker, none_given, queue_read_refuses}
use Rattle.reduce_lists.proofs.Joining.{queue_taken}
use Rattle.reduce_lists.proofs.Listing.{gives_known}
use Rattle.reduce_sweep.specs.Sweeps.{held_of}
use Rattle.reduce_sweep.proofs.Doing.{does_ok, does_err}
use Rattle.reduce_sweep.proofs.Fitting.{queue_fits, queue_keeps, queue_does}
use Rattle.reduce_sweep.proofs.reduce.ReduceSweep.take.Goals as goal

-- the arcs behind it are left, and only parts were taken
pub returns-clause-taken : goal.returns-clause-taken
returns-clause-taken g c = λ told k arc at holds.
    queue_taken (held_of c.args.self.now) c.take.new.self c.take.new.parts _ _ k arc _ c.requires.fit.sound.served
    (c.take.ensures.content.did told)
    (c.in_ok-take.ensures.list told k.queue holds.queue_is) c.in_ok-take.ensures.last at holds

-- the windows hold what the files of the runs do
pub returns-clause-fit : goal.returns-clause-fit
returns-clause-fit g c = queue_fits g.S.Shelf.tells g.S.Shelf.world g.S.Shelf.faults _ _ c.args.self.now c.requires.fit
    c.take.new.parts c.take.ensures.parts
    c.take.ensures.content
    c.take.new.self (Ok c.in_ok-take.field-0) c.take.ensures.values c.take.ensures.serves c.take.ensures.runs
    c.in_ok-take.ensures.in_step

-- and the list exists still
pub returns-clause-trusts : goal.returns-clause-trusts
returns-clause-trusts g c = queue_keeps g.S.Shelf.tells g.S.Shelf.world g.S.Shelf.faults _ _ c.args.self.now
    c.requires.fit c.take.new.parts c.take.ensures.parts
    c.take.ensures.content
    c.take.new.self (Ok c.in_ok-take.field-0)
    (gives_known _ _ _ (Ok c.in_ok-take.field-0) (λ told xs list. c.in_ok-take.ensures.list told xs list))

-- no run is damaged where the list exists
pub returns-in_err-take-clause-does : goal.returns-in_err-take-clause-does
returns-in_err-take-clause-does g c = does_err g.S.Shelf.tells g.S.Shelf.world g.S.Shelf.faults 8 0 _ _ c.args.self.now
    _ c.from_residual.result c.take.result c.in_err-take.field-0.0 c.from_residual.ensures.1 c.in_err-take.was
    (queue_does g.S.Shelf.tells g.S.Shelf.world g.S.Shelf.faults _ _ c.args.self.now c.requires.fit c.take.new.parts
    c.take.ensures.parts
    c.take.ensures.content
    c.take.new.self 8 0 c.take.result c.take.ensures.calls c.take.ensures.spent c.take.ensures.faults
    (if_err_weaker c.take.result (λ e cause. queue_read_refuses IsFinalArc final_arc_words c.args.self.now.ahead.queue
    c.take.new.self c.take.new.parts e
    (queue_serves_on c.args.self.now.ahead.queue c.args.self.now.parts c.take.new.parts
    c.requires.fit.sound.served.queue_served c.take.ensures.parts) c.take.ensures.serves c.take.ensures.values cause)
    c.take.ensures.cause)
    (none_given _ _ _ c.args.self.now.ahead c.args.self.now.lists (g.S.Shelf.world c.args.shelf.now) c.take.result
    (λ listed. listed.queue_listed)
    (λ told xs list. c.take.ensures.list told xs list)))

pub returns-clause-does : goal.returns-clause-does
returns-clause-does g c = does_ok g.S.Shelf.tells g.S.Shelf.world g.S.Shelf.faults 8 0 _ _ c.args.self.now _
    c.take.result tt
    (queue_does g.S.Shelf.tells g.S.Shelf.world g.S.Shelf.faults _ _ c.args.self.now c.requires.fit c.take.new.parts
    c.take.ensures.parts
    c.take.ensures.content
    c.take.new.self 8 0 c.take.result c.take.ensures.calls c.take.ensures.spent c.take.ensures.faults
    (if_err_weaker c.take.result (λ e cause. queue_read_refuses IsFinalArc final_arc_words c.args.self.now.ahead.queue
    c.take.new.self c.take.new.parts e
    (queue_serves_on c.args.self.now.ahead.queue c.args.self.now.parts c.take.new.parts
    c.requires.fit.sound.served.queue_served c.take.ensures.parts) c.take.ensures.serves c.take.ensures.values cause)
    c.take.ensures.cause)
    (none_given _ _ _ c.args.self.now.ahead c.args.self.now.lists (g.S.Shelf.world c.args.shelf.now) c.take.result
    (λ listed. listed.queue_listed)
    (λ told xs list. c.take.ensures.list told xs list)))
