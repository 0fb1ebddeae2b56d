use Rattle.sweep_core.proofs.Leaving.{leaves_err}
use Rattle.sweep_core.proofs.Counting.{leaves_within}
use Rattle.sweep_core.proofs.driver.run_some.Goals as goal

pub returns-in_err-turn-clause-leaves : goal.returns-in_err-turn-clause-leaves
returns-in_err-turn-clause-leaves g c =
    let leaves = leaves_within g.P.Sweep g.S.Shelf _ _ _ _ _ _ _ _ _ c.loop-turn-test.true c.loop-turn.invariant.so_far
    c.turn.ensures.leaves in
    leaves_err g.S.Shelf.tells g.S.Shelf.world g.S.Shelf.faults g.P.Sweep.accounts _ _ _ _ _ _ c.from_residual.result
    c.turn.result c.in_err-turn.field-0.0 c.from_residual.ensures.1 c.in_err-turn.was leaves
