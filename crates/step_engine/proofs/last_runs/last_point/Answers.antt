use Rattle.step_engine.proofs.Emptying.{loaded_tidies}
use Rattle.step_engine.proofs.last_runs.last_point.Goals as goal

pub returns-in-Ok-clause-content : goal.returns-in-Ok-clause-content
returns-in-Ok-clause-content g c step next swept =
    loaded_tidies g.S.Shelf.tells g.S.Shelf.world step c.args.number next _ _ _ _ _ swept c.checkpoint_gate.ensures c.if-branch-eq0.false
    c.in_ok-len.ensures.content c.in-Ok.ensures.content

pub returns-in-Err-Damaged-clause-content : goal.returns-in-Err-Damaged-clause-content
returns-in-Err-Damaged-clause-content g c step next swept =
    loaded_tidies g.S.Shelf.tells g.S.Shelf.world step c.args.number next _ _ _ _ _ swept c.checkpoint_gate.ensures c.if-branch-eq0.false
    c.in_ok-len.ensures.content c.in-Err-Damaged.ensures.content
