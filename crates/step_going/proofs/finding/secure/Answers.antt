use Rattle.step_going.proofs.Secured.{some_synced, find_sure}
use Rattle.step_going.proofs.finding.secure.Goals as goal

pub returns-in_err-secure_tables-clause-content : goal.returns-in_err-secure_tables-clause-content
returns-in_err-secure_tables-clause-content g c =
    find_sure g.S.Shelf.tells g.S.Shelf.world c.args.point.now.step g.met.S.Shelf.files_are _ _ _
    (some_synced g.S.Shelf.tells g.S.Shelf.world c.args.point.now.step _ _ _ _ _ c.in_ok-secure_parts.ensures.content c.in_err-secure_tables.ensures.content)

pub returns-clause-content : goal.returns-clause-content
returns-clause-content g c =
    find_sure g.S.Shelf.tells g.S.Shelf.world c.args.point.now.step g.met.S.Shelf.files_are _ _ _
    (some_synced g.S.Shelf.tells g.S.Shelf.world c.args.point.now.step _ _ _ _ _ c.in_ok-secure_parts.ensures.content c.in_ok-secure_tables.ensures.content)
