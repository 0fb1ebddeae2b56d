use Rattle.std.proofs.Common.{IsTrue, arith, inl}
use Rattle.reduce_lists.proofs.Refusing.{if_err_weaker, none_given, read_refuses}
use Rattle.reduce_lists.proofs.Joining.{rows_given}
use Rattle.reduce_lists.proofs.Listing.{took_none, stays_spilled, gives_known}
use Rattle.reduce_sweep.specs.Sweeps.{held_of}
use Rattle.reduce_sweep.proofs.Fitting.{rows_fit, rows_keep, rows_do}
use Rattle.reduce_sweep.proofs.reduce.ReduceSweep.next_row.Goals as goal

-- the first row is given, and no file changed
pub returns-clause-given : goal.returns-clause-given
returns-clause-given g c = rows_given (held_of c.args.self.now) c.next.new.self
    (IsTrue (g.S.Shelf.tells c.next.new.shelf)) _ _ c.next.result
    c.requires.fit.sound.served (λ told. c.next.ensures.content.did told)
    (λ told xs list. c.next.ensures.list told xs list)

-- the windows hold what the files of the runs do
pub returns-clause-fit : goal.returns-clause-fit
returns-clause-fit g c = rows_fit g.S.Shelf.tells g.S.Shelf.world g.S.Shelf.faults _ _ c.args.self.now c.requires.fit
    c.args.self.now.parts (took_none c.args.self.now.parts)
    (stays_spilled g.S.Shelf.tells g.S.Shelf.world _ _ c.args.self.now.parts c.next.ensures.content)
    c.next.new.self c.next.result c.next.ensures.values (c.next.ensures.serves c.args.self.now.parts
    c.requires.fit.sound.served.rows_served) (λ f run. inl (c.next.ensures.runs f run))
    c.next.ensures.in_step

-- and the list exists still
pub returns-clause-trusts : goal.returns-clause-trusts
returns-clause-trusts g c = rows_keep g.S.Shelf.tells g.S.Shelf.world g.S.Shelf.faults _ _ c.args.self.now
    c.requires.fit c.args.self.now.parts (took_none c.args.self.now.parts)
    (stays_spilled g.S.Shelf.tells g.S.Shelf.world _ _ c.args.self.now.parts c.next.ensures.content)
    c.next.new.self c.next.result
    (gives_known _ _ _ c.next.result (λ told xs list. c.next.ensures.list told xs list))

-- no run is damaged where the list exists
pub returns-clause-does : goal.returns-clause-does
returns-clause-does g c = rows_do g.S.Shelf.tells g.S.Shelf.world g.S.Shelf.faults _ _ c.args.self.now c.requires.fit
    c.args.self.now.parts (took_none c.args.self.now.parts)
    (stays_spilled g.S.Shelf.tells g.S.Shelf.world _ _ c.args.self.now.parts c.next.ensures.content)
    c.next.new.self 2 0 c.next.result c.next.ensures.calls (let less = c.next.ensures.spent in omega (arith, less))
    c.next.ensures.faults
    (if_err_weaker c.next.result (λ e cause. read_refuses c.args.self.now.lists.rows c.args.self.now.parts e
    c.requires.fit.sound.served.rows_served cause) c.next.ensures.cause)
    (none_given _ _ _ c.args.self.now.ahead c.args.self.now.lists (g.S.Shelf.world c.args.shelf.now) c.next.result
    (λ listed. listed.rows_listed) (λ told xs list. c.next.ensures.list told xs list))
