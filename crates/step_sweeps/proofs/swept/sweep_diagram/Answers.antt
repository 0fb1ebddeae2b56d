use Rattle.step_sweeps.proofs.SweptSteps.{swept_anew}
use Rattle.step_sweeps.proofs.swept.sweep_diagram.Goals as goal

pub returns : goal.returns
returns g c = record {
  makes = swept_anew g.S.Shelf.tells g.S.Shelf.world g.S.Shelf.faults c.args.making _ _ _ c.sweep_on.result
      c.requires.anew.last_is c.sweep_on.ensures.sweeps;
}
