use Rattle.std.proofs.Common.{rules}
use Rattle.sweep_core.proofs.Leaving.{leaves_ok, leaves_err}
use Rattle.sweep_core.proofs.Counting.{turns_made, turns_counted, leaves_fueled}
use Rattle.sweep_core.proofs.driver.run_to_end.Goals as goal

pub returns-in_err-made-clause-leaves : goal.returns-in_err-made-clause-leaves
returns-in_err-made-clause-leaves g c =
    let leaves = leaves_fueled g.P.Sweep g.S.Shelf _ _ _ _ _ _ _ _ _ c.turns.invariant.so_far c.run_some.ensures.leaves
    in
    leaves_err g.S.Shelf.tells g.S.Shelf.world g.S.Shelf.faults g.P.Sweep.accounts _ _ _ _ _ _ c.from_residual.result
    c.run_some.result c.in_err-made.field-0.0 c.from_residual.ensures.1 c.in_err-made.was leaves

pub returns-then-eq-clause-leaves : goal.returns-then-eq-clause-leaves
returns-then-eq-clause-leaves g c =
    let leaves = leaves_fueled g.P.Sweep g.S.Shelf _ _ _ _ _ _ _ _ _ c.turns.invariant.so_far c.run_some.ensures.leaves
    in
    leaves_ok g.S.Shelf.tells g.S.Shelf.world g.S.Shelf.faults g.P.Sweep.accounts _ _ _ _ _ _ _
    c.saturating_add-turns.result leaves

pub turns-preserved : goal.turns-preserved
turns-preserved g c = record {
  ready = search rules;
  in_step = search rules;
  trusts = search rules;
  keeps = search rules;
  same = search rules;
  so_far =
      let answered = c.in_ok-made.ensures in
      let leaves = leaves_ok g.S.Shelf.tells g.S.Shelf.world g.S.Shelf.faults g.P.Sweep.accounts _ _ _ _ _ _ _
      c.in_ok-made.made.turn answered.leaves in
      let further = turns_made g.P.Sweep g.S.Shelf c.in_ok-made.made.turns _ _ _ _ _ c.in_ok-made.made.turn
      (search rules) answered.made answered.moves answered.fewer leaves in
      turns_counted g.P.Sweep g.S.Shelf _ _ _ _ _ _ _ _ _ c.saturating_add-turns.ensures c.turns.invariant.so_far
      c.turns.invariant.keeps further;
}
