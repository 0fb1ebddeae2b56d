use Rattle.catalogue.proofs.Committed.{commit_put, commit_counted, commit_ok}
use Rattle.catalogue.proofs.steps.commit.Goals as goal

pub returns-in_err-put_entry-clause-content : goal.returns-in_err-put_entry-clause-content
returns-in_err-put_entry-clause-content g c = commit_put g.S.Shelf.tells g.S.Shelf.world c.args.entry.now _ _ c.in_err-put_entry.ensures.content

pub returns-clause-content : goal.returns-clause-content
returns-clause-content g c = commit_counted g.S.Shelf.tells g.S.Shelf.world c.args.entry.now _ _ _ c.requires.ready c.in_ok-put_entry.ensures.content c.in_ok-put_entry.ensures.ok c.commit_waiting.ensures.content

pub returns-clause-ok : goal.returns-clause-ok
returns-clause-ok g c = commit_ok g.S.Shelf.tells g.S.Shelf.world c.args.entry.now _ _ _ _ c.requires.ready c.in_ok-put_entry.ensures.content c.in_ok-put_entry.ensures.ok c.commit_waiting.ensures.content c.commit_waiting.ensures.ok
