use Rattle.std.proofs.Common.{IsTrue, arith, inl}
use Rattle.arc_diagrams.specs.Items.{IsFinalArc, final_arc_words}
use Rattle.reduce_lists.proofs.Refusing.{if_err_weaker, none_shown, queue_read_refuses}
use Rattle.reduce_lists.proofs.Joining.{queue_shown}
use Rattle.reduce_lists.proofs.Listing.{took_none, stays_spilled, shows_known}
use Rattle.reduce_sweep.specs.Sweeps.{held_of}
use Rattle.reduce_sweep.proofs.Fitting.{queue_fits, queue_keeps, queue_does}
use Rattle.reduce_sweep.proofs.reduce.ReduceSweep.first_queued.Goals as goal

-- the first arc is shown, and no file changed
pub returns-clause-shown : goal.returns-clause-shown
returns-clause-shown g c = queue_shown (held_of c.args.self.now) c.peek.new.self
    (IsTrue (g.S.Shelf.tells c.peek.new.shelf)) _ _ c.peek.result
    c.requires.fit.sound.served c.peek.ensures.last (λ told. c.peek.ensures.content.did told)
    (λ told xs list. c.peek.ensures.list told xs list)

-- the windows hold what the files of the runs do
pub returns-clause-fit : goal.returns-clause-fit
returns-clause-fit g c = queue_fits g.S.Shelf.tells g.S.Shelf.world g.S.Shelf.faults _ _ c.args.self.now c.requires.fit
    c.args.self.now.parts (took_none c.args.self.now.parts)
    (stays_spilled g.S.Shelf.tells g.S.Shelf.world _ _ c.args.self.now.parts c.peek.ensures.content)
    c.peek.new.self c.peek.result c.peek.ensures.values (c.peek.ensures.serves c.args.self.now.parts
    c.requires.fit.sound.served.queue_served) (λ f run. inl (c.peek.ensures.runs f run))
    c.peek.ensures.in_step

-- and the list exists still
pub returns-clause-trusts : goal.returns-clause-trusts
returns-clause-trusts g c = queue_keeps g.S.Shelf.tells g.S.Shelf.world g.S.Shelf.faults _ _ c.args.self.now
    c.requires.fit c.args.self.now.parts (took_none c.args.self.now.parts)
    (stays_spilled g.S.Shelf.tells g.S.Shelf.world _ _ c.args.self.now.parts c.peek.ensures.content)
    c.peek.new.self c.peek.result
    (shows_known _ _ _ c.peek.result (λ told xs list. c.peek.ensures.list told xs list))

-- no run is damaged where the list exists
pub returns-clause-does : goal.returns-clause-does
returns-clause-does g c = queue_does g.S.Shelf.tells g.S.Shelf.world g.S.Shelf.faults _ _ c.args.self.now c.requires.fit
    c.args.self.now.parts (took_none c.args.self.now.parts)
    (stays_spilled g.S.Shelf.tells g.S.Shelf.world _ _ c.args.self.now.parts c.peek.ensures.content)
    c.peek.new.self 8 0 c.peek.result (λ told. (let paid = c.peek.ensures.calls told in omega (arith, paid)))
    (let less = c.peek.ensures.spent in omega (arith, less)) c.peek.ensures.faults
    (if_err_weaker c.peek.result (λ e cause. queue_read_refuses IsFinalArc final_arc_words c.args.self.now.ahead.queue
    c.peek.new.self c.args.self.now.parts e
    c.requires.fit.sound.served.queue_served (c.peek.ensures.serves c.args.self.now.parts
    c.requires.fit.sound.served.queue_served) c.peek.ensures.values cause) c.peek.ensures.cause)
    (none_shown _ _ _ c.args.self.now.ahead c.args.self.now.lists (g.S.Shelf.world c.args.shelf.now) c.peek.result
    (λ listed. listed.queue_listed) (λ told xs list. c.peek.ensures.list told xs list))
