use Rattle.std.proofs.Common.{IsTrue}
use Rattle.reduce_lists.proofs.Freezing.{frozen_on, frozen_stands, none_frozen}
use Rattle.reduce_lists.proofs.Refusing.{if_err_weaker, push_refuses}
use Rattle.reduce_sweep.proofs.Freezes.{rows_keep_all, rows_settle, rows_froze, rows_others}
use Rattle.reduce_sweep.proofs.reduce.ReduceSweep.freeze_rows.Goals as goal

-- the rows are what they were
pub returns-clause-settles : goal.returns-clause-settles
returns-clause-settles g c =
    let s = c.args.self.now in
    let did = c.freeze.ensures in
    let tells = IsTrue (g.S.Shelf.tells c.freeze.new.shelf) in
    rows_settle g.S.Shelf.tells g.S.Shelf.world g.S.Shelf.faults _ _ s c.requires.fit c.freeze.new.parts did.parts
    c.freeze.new.self did.content c.freeze.result did.calls did.spent did.faults
    (if_err_weaker c.freeze.result (λ e cause. push_refuses s.lists.rows s.parts c.freeze.new.parts e
    c.requires.fit.sound.served.rows_served did.parts cause) did.cause)
    (none_frozen _ _ _ tells _ c.freeze.result (λ listed. listed.rows_listed) did.list)
    (rows_keep_all g.S.Shelf.tells g.S.Shelf.world g.S.Shelf.faults _ _ s c.requires.fit c.freeze.new.parts did.parts
    c.freeze.new.self did.content c.freeze.result did.values did.serves did.runs did.count did.in_step
    (frozen_on _ _ _ tells c.freeze.result did.list))

pub returns-clause-others : goal.returns-clause-others
returns-clause-others g c = rows_others g.S.Shelf.tells g.S.Shelf.world g.S.Shelf.faults _ _ c.args.self.now
    c.requires.fit c.freeze.new.parts c.freeze.ensures.parts c.freeze.new.self c.freeze.ensures.content

pub returns-clause-froze : goal.returns-clause-froze
returns-clause-froze g c =
    let did = c.freeze.ensures in
    rows_froze g.S.Shelf.tells g.S.Shelf.world g.S.Shelf.faults _ _ c.args.self.now c.requires.fit c.freeze.new.parts
    did.parts c.freeze.new.self did.content c.freeze.result did.table did.slots did.serves_table did.counted did.count
    did.named did.only did.firm (frozen_stands _ _ _ (IsTrue (g.S.Shelf.tells c.freeze.new.shelf)) c.freeze.result did.list)
