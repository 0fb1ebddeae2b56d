use Rattle.file_writes.proofs.Written.{grown_once, grown_sure}
use Rattle.file_writes.proofs.writes.lengthen.Goals as goal

pub returns-in_err-append-clause-content : goal.returns-in_err-append-clause-content
returns-in_err-append-clause-content g c = grown_once g.S.Shelf.tells g.S.Shelf.world c.args.gate _ _ _ _ c.in_err-append.ensures.content

pub returns-clause-content : goal.returns-clause-content
returns-clause-content g c = grown_sure g.S.Shelf.tells g.S.Shelf.world c.args.gate _ _ _ _ _ c.in_ok-append.ensures.content c.sync.ensures.content
