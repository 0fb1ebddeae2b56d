use Rattle.std.proofs.Common.{IsTrue}
use Rattle.reduce_lists.proofs.Refusing.{if_err_weaker, none_joined, push_refuses}
use Rattle.reduce_lists.proofs.Joining.{names_join}
use Rattle.reduce_lists.proofs.Listing.{joins_known}
use Rattle.reduce_sweep.specs.Sweeps.{held_of}
use Rattle.reduce_sweep.proofs.Fitting.{names_fit, names_keep, names_do}
use Rattle.reduce_sweep.proofs.reduce.ReduceSweep.push_name.Goals as goal

-- the name joined the list, and only parts were taken
pub returns-clause-joined : goal.returns-clause-joined
returns-clause-joined g c = names_join (held_of c.args.self.now) c.push.new.self c.push.new.parts
    (IsTrue (g.S.Shelf.tells c.push.new.shelf)) _ _ c.args.name c.push.result
    c.requires.fit.sound.served (λ told. c.push.ensures.content.did told)
    (λ told xs list. c.push.ensures.list told xs list)

-- the windows hold what the files of the runs do
pub returns-clause-fit : goal.returns-clause-fit
returns-clause-fit g c = names_fit g.S.Shelf.tells g.S.Shelf.world g.S.Shelf.faults _ _ c.args.self.now c.requires.fit
    c.push.new.parts c.push.ensures.parts
    c.push.ensures.content
    c.push.new.self c.push.result c.push.ensures.values c.push.ensures.serves c.push.ensures.runs
    c.push.ensures.in_step

-- and the list exists still
pub returns-clause-trusts : goal.returns-clause-trusts
returns-clause-trusts g c = names_keep g.S.Shelf.tells g.S.Shelf.world g.S.Shelf.faults _ _ c.args.self.now
    c.requires.fit c.push.new.parts c.push.ensures.parts
    c.push.ensures.content
    c.push.new.self c.push.result
    (joins_known _ _ _ c.args.name c.push.result (λ told xs list. c.push.ensures.list told xs list))

-- no run is damaged where the list exists
pub returns-clause-does : goal.returns-clause-does
returns-clause-does g c = names_do g.S.Shelf.tells g.S.Shelf.world g.S.Shelf.faults _ _ c.args.self.now c.requires.fit
    c.push.new.parts c.push.ensures.parts
    c.push.ensures.content
    c.push.new.self 16 1 c.push.result c.push.ensures.calls c.push.ensures.spent c.push.ensures.faults
    (if_err_weaker c.push.result (λ e cause. push_refuses c.args.self.now.lists.names c.args.self.now.parts
    c.push.new.parts e
    c.requires.fit.sound.served.names_served c.push.ensures.parts cause) c.push.ensures.cause)
    (none_joined _ _ _ c.args.self.now.ahead c.args.self.now.lists (g.S.Shelf.world c.args.shelf.now) c.args.name
    c.push.result (λ listed. listed.names_listed) (λ told xs list. c.push.ensures.list told xs list))
