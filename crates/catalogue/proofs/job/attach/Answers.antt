use Rattle.catalogue.proofs.Synced.{attach_refused, attach_resumed, attach_stored}
use Rattle.catalogue.proofs.job.attach.Goals as goal
use Rattle.std.proofs.Common.{arith}
use Rattle.std.proofs.lemmas.Grind.{common_steps}

pub returns-in_err-make_gates_sure-clause-content : goal.returns-in_err-make_gates_sure-clause-content
returns-in_err-make_gates_sure-clause-content g c = attach_refused g.S.Shelf.tells g.S.Shelf.world c.args.job.now _ _ c.in_err-make_gates_sure.ensures.content

pub returns-in_err-store-clause-content : goal.returns-in_err-store-clause-content
returns-in_err-store-clause-content g c = attach_stored g.S.Shelf.tells g.S.Shelf.world c.args.job.now _ _ _ _ c.if-branch-eq0.true c.in_ok-make_gates_sure.ensures.content c.in_ok-make_gates_sure.ensures.ok c.in_err-store.ensures.content

pub returns-then-branch-eq0-clause-content : goal.returns-then-branch-eq0-clause-content
returns-then-branch-eq0-clause-content g c = attach_stored g.S.Shelf.tells g.S.Shelf.world c.args.job.now _ _ _ _ c.if-branch-eq0.true c.in_ok-make_gates_sure.ensures.content c.in_ok-make_gates_sure.ensures.ok c.in_ok-store.ensures.content

pub returns-clause-content : goal.returns-clause-content
returns-clause-content g c = attach_resumed g.S.Shelf.tells g.S.Shelf.world c.args.job.now _ _ _ c.in_ok-make_gates_sure.ensures.content c.resume.ensures.content

pub store-requires : goal.store-requires
store-requires g c = grind (arith, common_steps)
