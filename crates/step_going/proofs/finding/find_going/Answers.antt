use Rattle.step_going.proofs.Secured.{find_loaded, find_stayed, find_secured, found_secured, too_many}
use Rattle.step_going.proofs.finding.find_going.Goals as goal

pub returns-in_err-at-clause-content : goal.returns-in_err-at-clause-content
returns-in_err-at-clause-content g c =
    find_stayed g.S.Shelf.tells g.S.Shelf.world c.args.step _ _ _
    (find_loaded g.S.Shelf.tells g.S.Shelf.world c.args.step _ _ c.in_ok-point.ensures.content) c.in_err-at.ensures.content

pub returns-then-point-clause-content : goal.returns-then-point-clause-content
returns-then-point-clause-content g c =
    find_stayed g.S.Shelf.tells g.S.Shelf.world c.args.step _ _ _
    (find_loaded g.S.Shelf.tells g.S.Shelf.world c.args.step _ _ c.in_ok-point.ensures.content) c.in_ok-at.ensures.content

pub returns-then-point-clause-err : goal.returns-then-point-clause-err
returns-then-point-clause-err g c =
    too_many g.S.Shelf.tells g.S.Shelf.world c.args.step c.checkpoint_file.result c.in_ok-at.at _ c.in-Some.point _ _ _ c.in-Some.is
    c.in_ok-point.ensures.content c.in_ok-point.ensures.ok c.checkpoint_file.ensures c.in_ok-at.ensures.content c.in_ok-at.ensures.place c.if-point.true

pub returns-in_err-secure-clause-content : goal.returns-in_err-secure-clause-content
returns-in_err-secure-clause-content g c =
    find_secured g.S.Shelf.tells g.S.Shelf.world c.args.step _ c.in-Some.point _ _ _ c.in-Some.is c.in_ok-point.ensures.rules
    (find_loaded g.S.Shelf.tells g.S.Shelf.world c.args.step _ _ c.in_ok-point.ensures.content) c.in_err-secure.ensures.content

pub returns-clause-content : goal.returns-clause-content
returns-clause-content g c =
    find_secured g.S.Shelf.tells g.S.Shelf.world c.args.step _ c.in-Some.point _ _ _ c.in-Some.is c.in_ok-point.ensures.rules
    (find_loaded g.S.Shelf.tells g.S.Shelf.world c.args.step _ _ c.in_ok-point.ensures.content) c.in_ok-secure.ensures.content

pub returns-clause-ok : goal.returns-clause-ok
returns-clause-ok g c =
    found_secured g.S.Shelf.tells g.S.Shelf.world c.args.step g.met.S.Shelf.files_are _ c.in-Some.point _ _ c.in-Some.is c.in_ok-point.ensures.rules
    c.in_ok-point.ensures.ok c.in_ok-secure.ensures.content c.in_ok-secure.ensures.ok
