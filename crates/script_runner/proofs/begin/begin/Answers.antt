use Rattle.script_runner.proofs.Beginning.{asked_then}
use Rattle.script_runner.proofs.begin.begin.Goals as goal

pub returns-in_err-gone_on-clause-content : goal.returns-in_err-gone_on-clause-content
returns-in_err-gone_on-clause-content g c =
    asked_then g.S.Shelf.tells g.S.Shelf.world c.args.job.now.bytes.now _ _ _ c.in_ok-standing.ensures.content c.in_err-gone_on.ensures.content

pub returns-clause-content : goal.returns-clause-content
returns-clause-content g c =
    asked_then g.S.Shelf.tells g.S.Shelf.world c.args.job.now.bytes.now _ _ _ c.in_ok-standing.ensures.content c.in_ok-gone_on.ensures.content
