use Rattle.std.proofs.Common.{◌-◌, arith}
use Rattle.script_runner.proofs.TogetherPuts.{put_failed, commits, committed}
use Rattle.script_runner.proofs.together.commit_together.Goals as goal

pub returns-in_err-last-clause-content : goal.returns-in_err-last-clause-content
returns-in_err-last-clause-content g c =
    put_failed g.S.Shelf.tells g.S.Shelf.world c.args.steps.now c.args.entry.now c.args.end c.requires.within.0 _ _ c.in_err-last.ensures.content

pub returns-in_err-commit_waiting-clause-content : goal.returns-in_err-commit_waiting-clause-content
returns-in_err-commit_waiting-clause-content g c =
    let within = c.requires.within.0 in
    commits g.S.Shelf.tells g.S.Shelf.world c.args.steps.now c.args.entry.now c.args.end within _ _ c.in_ok-last.ensures.content
    (c.args.end - c.args.entry.now.number) _ (omega (arith, within)) c.in_ok-last.ensures.ok c.in_err-commit_waiting.ensures.content

pub returns-clause-content : goal.returns-clause-content
returns-clause-content g c =
    let within = c.requires.within.0 in
    commits g.S.Shelf.tells g.S.Shelf.world c.args.steps.now c.args.entry.now c.args.end within _ _ c.in_ok-last.ensures.content
    (c.args.end - c.args.entry.now.number) _ (omega (arith, within)) c.in_ok-last.ensures.ok c.in_ok-commit_waiting.ensures.content

pub returns-clause-ok : goal.returns-clause-ok
returns-clause-ok g c =
    let within = c.requires.within.0 in
    committed g.S.Shelf.tells g.S.Shelf.world c.args.steps.now c.args.entry.now c.args.end within _ _ c.in_ok-last.ensures.content
    (c.args.end - c.args.entry.now.number) _ (omega (arith, within)) c.in_ok-last.ensures.ok c.in_ok-commit_waiting.ensures.content
    c.in_ok-commit_waiting.ensures.ok
