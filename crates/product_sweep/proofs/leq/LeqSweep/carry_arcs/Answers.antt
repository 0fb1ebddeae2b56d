use Rattle.std.proofs.Common.{sym, subst}
use Rattle.table_work.specs.Tables.{sweep_of}
use Rattle.top_down_sweep.specs.Fuel.{fuel_of}
use Rattle.product_sweep.specs.declared.leq.LeqPhase.{LeqPhase}
use Rattle.product_sweep.specs.Implications.{HasWork, IsInStepAt}
use Rattle.product_sweep.specs.LeqSaving.{Carried}
use Rattle.product_sweep.proofs.LeqResumes.{carried_leq}
use Rattle.product_sweep.proofs.Turning.{leq}
use Rattle.product_sweep.proofs.leq.LeqSweep.carry_arcs.Goals as goal

-- more is to be made
pub carry-requires-clause-works : goal.carry-requires-clause-works
carry-requires-clause-works g c = subst (λ (phase : LeqPhase). HasWork phase
    (fuel_of (sweep_of c.args.self.now.product))) c.requires.phase c.requires.ready.works

pub carry-requires-clause-in_step : goal.carry-requires-clause-in_step
carry-requires-clause-in_step g c told = subst (λ (phase : LeqPhase). IsInStepAt phase c.args.self.now
    (g.S.Shelf.world c.args.shelf.now)) c.requires.phase (c.requires.in_step told)

-- what the product's sweep leaves is left
pub returns : goal.returns
returns g c =
    let p = c.args.self.now.product in
    subst (λ (phase : LeqPhase). Carried g.S.Shelf.tells g.S.Shelf.world g.S.Shelf.faults c.args.shelf.now
    c.carry.new.shelf (leq p phase) (leq c.carry.new.self phase) c.args.into.now c.carry.new.into c.carry.result)
    (sym c.requires.phase) (carried_leq g.S.Shelf.tells g.S.Shelf.world g.S.Shelf.faults c.args.shelf.now
    c.carry.new.shelf p c.carry.new.self c.args.into.now c.carry.new.into c.carry.result
    (subst (λ (phase : LeqPhase). HasWork phase
    (fuel_of (sweep_of c.args.self.now.product))) c.requires.phase c.requires.ready.works) (record {
      ready = c.carry.ensures.ready;
      in_step = c.carry.ensures.in_step;
      same = λ i. (c.carry.ensures.same i).0;
      fuel_is = c.carry.ensures.fuel;
      keeps = c.carry.ensures.keeps;
      left = c.carry.ensures.left;
      trusts = c.carry.ensures.trusts;
      head = c.carry.ensures.head;
      filled = c.carry.ensures.filled;
      names = c.carry.ensures.names;
      fits = c.carry.ensures.fits;
      stands = c.carry.ensures.stands;
      sure = c.carry.ensures.sure;
      still = c.carry.ensures.still;
      leaves = c.carry.ensures.leaves;
      damaged = c.carry.ensures.damage;
      undamaged = c.carry.ensures.undamaged;
      spent = c.carry.ensures.spent;
    }))
