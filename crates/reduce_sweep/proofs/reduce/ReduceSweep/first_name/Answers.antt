use Rattle.std.proofs.Common.{IsTrue, arith, inl}
use Rattle.reduce_lists.proofs.Refusing.{if_err_weaker, none_shown, read_refuses}
use Rattle.reduce_lists.proofs.Joining.{names_shown}
use Rattle.reduce_lists.proofs.Listing.{took_none, stays_spilled, shows_known}
use Rattle.reduce_sweep.specs.Sweeps.{held_of}
use Rattle.reduce_sweep.proofs.Fitting.{names_fit, names_keep, names_do}
use Rattle.reduce_sweep.proofs.reduce.ReduceSweep.first_name.Goals as goal

-- the first name is shown, and no file changed
pub returns-clause-shown : goal.returns-clause-shown
returns-clause-shown g c = names_shown (held_of c.args.self.now) c.peek.new.self
    (IsTrue (g.S.Shelf.tells c.peek.new.shelf)) _ _ c.peek.result
    c.requires.fit.sound.served (λ told. c.peek.ensures.content.did told)
    (λ told xs list. c.peek.ensures.list told xs list)

-- the windows hold what the files of the runs do
pub returns-clause-fit : goal.returns-clause-fit
returns-clause-fit g c = names_fit g.S.Shelf.tells g.S.Shelf.world g.S.Shelf.faults _ _ c.args.self.now c.requires.fit
    c.args.self.now.parts (took_none c.args.self.now.parts)
    (stays_spilled g.S.Shelf.tells g.S.Shelf.world _ _ c.args.self.now.parts c.peek.ensures.content)
    c.peek.new.self c.peek.result c.peek.ensures.values (c.peek.ensures.serves c.args.self.now.parts
    c.requires.fit.sound.served.names_served) (λ f run. inl (c.peek.ensures.runs f run))
    c.peek.ensures.in_step

-- and the list exists still
pub returns-clause-trusts : goal.returns-clause-trusts
returns-clause-trusts g c = names_keep g.S.Shelf.tells g.S.Shelf.world g.S.Shelf.faults _ _ c.args.self.now
    c.requires.fit c.args.self.now.parts (took_none c.args.self.now.parts)
    (stays_spilled g.S.Shelf.tells g.S.Shelf.world _ _ c.args.self.now.parts c.peek.ensures.content)
    c.peek.new.self c.peek.result
    (shows_known _ _ _ c.peek.result (λ told xs list. c.peek.ensures.list told xs list))

-- no run is damaged where the list exists
pub returns-clause-does : goal.returns-clause-does
returns-clause-does g c = names_do g.S.Shelf.tells g.S.Shelf.world g.S.Shelf.faults _ _ c.args.self.now c.requires.fit
    c.args.self.now.parts (took_none c.args.self.now.parts)
    (stays_spilled g.S.Shelf.tells g.S.Shelf.world _ _ c.args.self.now.parts c.peek.ensures.content)
    c.peek.new.self 2 0 c.peek.result (λ told. (let paid = c.peek.ensures.calls told in omega (arith, paid)))
    (let less = c.peek.ensures.spent in omega (arith, less)) c.peek.ensures.faults
    (if_err_weaker c.peek.result (λ e cause. read_refuses c.args.self.now.lists.names c.args.self.now.parts e
    c.requires.fit.sound.served.names_served cause) c.peek.ensures.cause)
    (none_shown _ _ _ c.args.self.now.ahead c.args.self.now.lists (g.S.Shelf.world c.args.shelf.now) c.peek.result
    (λ listed. listed.names_listed) (λ told xs list. c.peek.ensures.list told xs list))
