use Rattle.catalogue.proofs.Waiting.{as_many, waiting_synced, waiting_grown, waiting_counted, waiting_ok}
use Rattle.catalogue.proofs.steps.commit_waiting.Goals as goal

pub returns-in_err-append-clause-content : goal.returns-in_err-append-clause-content
returns-in_err-append-clause-content g c =
    waiting_grown g.S.Shelf.tells g.S.Shelf.world c.args.committed c.args.waiting _ _ _ _ _ (as_many c.args.waiting c.requires.some.1) c.requires.ready c.in_ok-sync.ensures.content c.in_err-append.ensures.content

pub returns-clause-content : goal.returns-clause-content
returns-clause-content g c =
    waiting_counted g.S.Shelf.tells g.S.Shelf.world c.args.committed c.args.waiting _ _ _ _ _ _ (as_many c.args.waiting c.requires.some.1) c.requires.ready c.in_ok-sync.ensures.content c.in_ok-append.ensures.content c.sync-2.ensures.content

pub returns-in_err-sync-clause-content : goal.returns-in_err-sync-clause-content
returns-in_err-sync-clause-content g c =
    waiting_synced g.S.Shelf.tells g.S.Shelf.world c.args.committed c.args.waiting _ _ _ c.requires.ready c.in_err-sync.ensures.content

pub returns-clause-ok : goal.returns-clause-ok
returns-clause-ok g c =
    waiting_ok g.S.Shelf.tells g.S.Shelf.world c.args.committed c.args.waiting _ _ _ _ _ _ (as_many c.args.waiting c.requires.some.1) c.requires.ready c.requires.within c.in_ok-sync.ensures.content c.in_ok-append.ensures.content c.sync-2.ensures.content
