use Rattle.std.proofs.Common.{arith, inl}
use Rattle.std.specs.Prelude.{Ok}
use Rattle.reduce_lists.proofs.Refusing.{if_err_weaker, none_given, read_refuses}
use Rattle.reduce_lists.proofs.Joining.{names_left}
use Rattle.reduce_lists.proofs.Listing.{took_none, stays_spilled, gives_known}
use Rattle.reduce_sweep.specs.Sweeps.{held_of}
use Rattle.reduce_sweep.proofs.Doing.{does_ok, does_err}
use Rattle.reduce_sweep.proofs.Fitting.{names_fit, names_keep, names_do}
use Rattle.reduce_sweep.proofs.reduce.ReduceSweep.take_name.Goals as goal

-- the other names are left, and no file changed
pub returns-clause-left : goal.returns-clause-left
returns-clause-left g c = λ told k m rest is holds.
    names_left (held_of c.args.self.now) c.next.new.self _ _ k m rest _ c.requires.fit.sound.served
    (c.next.ensures.content.did told) (c.in_ok-next.ensures.list told k.names holds.names_is) is holds

-- the windows hold what the files of the runs do
pub returns-clause-fit : goal.returns-clause-fit
returns-clause-fit g c = names_fit g.S.Shelf.tells g.S.Shelf.world g.S.Shelf.faults _ _ c.args.self.now c.requires.fit
    c.args.self.now.parts (took_none c.args.self.now.parts)
    (stays_spilled g.S.Shelf.tells g.S.Shelf.world _ _ c.args.self.now.parts c.next.ensures.content)
    c.next.new.self (Ok c.in_ok-next.field-0) c.next.ensures.values
    (c.next.ensures.serves c.args.self.now.parts c.requires.fit.sound.served.names_served)
    (λ f run. inl (c.next.ensures.runs f run))
    c.in_ok-next.ensures.in_step

-- and the list exists still
pub returns-clause-trusts : goal.returns-clause-trusts
returns-clause-trusts g c = names_keep g.S.Shelf.tells g.S.Shelf.world g.S.Shelf.faults _ _ c.args.self.now
    c.requires.fit c.args.self.now.parts (took_none c.args.self.now.parts)
    (stays_spilled g.S.Shelf.tells g.S.Shelf.world _ _ c.args.self.now.parts c.next.ensures.content)
    c.next.new.self (Ok c.in_ok-next.field-0)
    (gives_known _ _ _ (Ok c.in_ok-next.field-0) (λ told xs list. c.in_ok-next.ensures.list told xs list))

-- no run is damaged where the list exists
pub returns-in_err-next-clause-does : goal.returns-in_err-next-clause-does
returns-in_err-next-clause-does g c = does_err g.S.Shelf.tells g.S.Shelf.world g.S.Shelf.faults 2 0 _ _ c.args.self.now
    _ c.from_residual.result c.next.result c.in_err-next.field-0.0 c.from_residual.ensures.1 c.in_err-next.was
    (names_do g.S.Shelf.tells g.S.Shelf.world g.S.Shelf.faults _ _ c.args.self.now c.requires.fit c.args.self.now.parts
    (took_none c.args.self.now.parts)
    (stays_spilled g.S.Shelf.tells g.S.Shelf.world _ _ c.args.self.now.parts c.next.ensures.content)
    c.next.new.self 2 0 c.next.result c.next.ensures.calls (let less = c.next.ensures.spent in omega (arith, less))
    c.next.ensures.faults
    (if_err_weaker c.next.result (λ e cause. read_refuses c.args.self.now.lists.names c.args.self.now.parts e
    c.requires.fit.sound.served.names_served cause) c.next.ensures.cause)
    (none_given _ _ _ c.args.self.now.ahead c.args.self.now.lists (g.S.Shelf.world c.args.shelf.now) c.next.result
    (λ listed. listed.names_listed)
    (λ told xs list. c.next.ensures.list told xs list)))

pub returns-clause-does : goal.returns-clause-does
returns-clause-does g c = does_ok g.S.Shelf.tells g.S.Shelf.world g.S.Shelf.faults 2 0 _ _ c.args.self.now _
    c.next.result tt
    (names_do g.S.Shelf.tells g.S.Shelf.world g.S.Shelf.faults _ _ c.args.self.now c.requires.fit c.args.self.now.parts
    (took_none c.args.self.now.parts)
    (stays_spilled g.S.Shelf.tells g.S.Shelf.world _ _ c.args.self.now.parts c.next.ensures.content)
    c.next.new.self 2 0 c.next.result c.next.ensures.calls (let less = c.next.ensures.spent in omega (arith, less))
    c.next.ensures.faults
    (if_err_weaker c.next.result (λ e cause. read_refuses c.args.self.now.lists.names c.args.self.now.parts e
    c.requires.fit.sound.served.names_served cause) c.next.ensures.cause)
    (none_given _ _ _ c.args.self.now.ahead c.args.self.now.lists (g.S.Shelf.world c.args.shelf.now) c.next.result
    (λ listed. listed.names_listed)
    (λ told xs list. c.next.ensures.list told xs list)))
