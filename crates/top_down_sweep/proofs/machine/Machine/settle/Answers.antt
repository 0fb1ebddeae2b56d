use Rattle.std.proofs.Common.{refl, sym, subst, ap, rules}
use Rattle.shelf_model.specs.SortFaults.{handed_on}
use Rattle.arc_file.specs.declared.unreduced.Unreduced.{Unreduced}
use Rattle.sweep_core.specs.Sweeps.{IsNoDamage}
use Rattle.sweep_core.proofs.Carrying.{leaves_carries}
use Rattle.node_reading.proofs.NodeReading.{if_handed}
use Rattle.top_down_sweep.specs.Sweeps.{machine_accounts}
use Rattle.top_down_sweep.proofs.Doing.{does_wrote}
use Rattle.top_down_sweep.proofs.MadeSure.{refused_ok, settle_keeps}
use Rattle.top_down_sweep.proofs.machine.Machine.settle.Goals as goal

-- only the files of arcs were written to
pub returns-in_err-made-clause-saves : goal.returns-in_err-made-clause-saves
returns-in_err-made-clause-saves g c =
    let m = c.args.self.now in
    let does = does_wrote g.S.Shelf.tells g.S.Shelf.world g.S.Shelf.faults 4 c.args.shelf.now c.settle.new.shelf m m.place
    c.settle.new.self c.from_residual.result refl c.settle.ensures.same c.settle.ensures.content (search rules)
    (search rules) in
    record {
      carries = leaves_carries g.S.Shelf.tells g.S.Shelf.world g.S.Shelf.faults machine_accounts 4 0 c.args.shelf.now
          c.settle.new.shelf m _ c.from_residual.result does.leaves;
      same = does.same;
      place_is = refl;
      operands_are = refl;
      last_is = refl;
      refused = does.refused;
      undamaged = if_handed _ c.from_residual.result _ c.from_residual.ensures.1
          (λ is bytes holds. subst (λ e. IsNoDamage (handed_on e)) (sym c.in_err-made.ensures.cause) tt);
      keeps = refused_ok _ _ c.from_residual.result c.from_residual.ensures.1;
    }

pub returns-clause-saves : goal.returns-clause-saves
returns-clause-saves g c =
    let m = c.args.self.now in
    let made = c.in_ok-made.ensures in
    let does = does_wrote g.S.Shelf.tells g.S.Shelf.world g.S.Shelf.faults 4 c.args.shelf.now c.settle.new.shelf m m.place
    c.settle.new.self _ refl c.settle.ensures.same c.settle.ensures.content (search rules) tt in
    record {
      carries = leaves_carries g.S.Shelf.tells g.S.Shelf.world g.S.Shelf.faults machine_accounts 4 0 c.args.shelf.now
          c.settle.new.shelf m _ _ does.leaves;
      same = does.same;
      place_is = refl;
      operands_are = refl;
      last_is = refl;
      refused = tt;
      undamaged = tt;
      keeps = settle_keeps g.S.Shelf.tells g.S.Shelf.world c.args.shelf.now c.settle.new.shelf m c.settle.new.self
          c.requires.fit c.settle.ensures.same (ap (λ (x : Unreduced). x.inner_count) made.counts)
          c.settle.ensures.content made.in_step (λ is xs ys held. (made.arcs is xs ys held).0);
    }
